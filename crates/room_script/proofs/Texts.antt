-- A text that grows by the line of a caller.
use Rattle.std.proofs.Common.{◌≡◌, ℕ, ◌+◌, List, [], ◌∷◌, ◌++◌, Some, length, take, append_assoc, ap, sym, ◌∙◌, arith}
use Rattle.std.specs.Prelude.{codes, slice_get}
use Rattle.std.proofs.lemmas.List.{append-nil, take_more, length-take}
use Rattle.std.proofs.lemmas.Option.{get_or_from_slice_get, slice_get_within}
use Rattle.std.proofs.lemmas.Grind.{flat_map-append}
use Rattle.room_core.specs.declared.phases.Phase.{Phase}
use Rattle.room_script.specs.Prints.{caller_line, caller_lines, text_of}

text_of-push : (lines : List (List ℕ)) (line : List ℕ) → text_of (lines ++ line ∷ []) ≡ text_of lines ++ (line ++ codes "\n")
text_of-push lines line = flat_map-append (λ l. l ++ codes "\n") lines (line ∷ []) ∙ ap (λ t. text_of lines ++ t) (append-nil (line ++ codes "\n"))

caller_lines-push : (from : ℕ) (phases : List Phase) (phase : Phase) → caller_lines from (phases ++ phase ∷ []) ≡ caller_lines from phases ++ caller_line (from + length phases) phase ∷ []
caller_lines-push from [] phase = let same : from ≡ from + 0 = omega arith in ap (λ n. caller_line n phase ∷ []) same
caller_lines-push from (p ∷ phases) phase =
    let same : (from + 1) + length phases ≡ from + length (p ∷ phases) = omega arith in
    ap (λ xs. caller_line from p ∷ xs) (caller_lines-push (from + 1) phases phase ∙ ap (λ n. caller_lines (from + 1) phases ++ caller_line n phase ∷ []) same)

-- one more caller
pub caller_more : (text now : List ℕ) (front : List (List ℕ)) (active : List ℕ) (phases : List Phase) (c : ℕ) (phase : Phase) → slice_get phases c ≡ Some phase
    → text ≡ text_of (front ++ active ∷ caller_lines 0 (take c phases)) → now ≡ text ++ (caller_line c phase ++ codes "\n") → now ≡ text_of (front ++ active ∷ caller_lines 0 (take (c + 1) phases))
caller_more text now front active phases c phase there before grew =
    let within = slice_get_within phases c phase there in
    let taken : take (c + 1) phases ≡ take c phases ++ phase ∷ [] =
    take_more phases c phase within ∙ ap (λ p. take c phases ++ p ∷ []) (get_or_from_slice_get phases c phase phase there) in
    let number : 0 + length (take c phases) ≡ c = omega (arith, length-take c phases, within) in
    let lines : caller_lines 0 (take (c + 1) phases) ≡ caller_lines 0 (take c phases) ++ caller_line c phase ∷ [] =
    ap (caller_lines 0) taken ∙ (caller_lines-push 0 (take c phases) phase ∙ ap (λ n. caller_lines 0 (take c phases) ++ caller_line n phase ∷ []) number) in
    let whole : (front ++ active ∷ caller_lines 0 (take c phases)) ++ caller_line c phase ∷ [] ≡ front ++ active ∷ caller_lines 0 (take (c + 1) phases) =
    append_assoc front (active ∷ caller_lines 0 (take c phases)) (caller_line c phase ∷ []) ∙ ap (λ xs. front ++ active ∷ xs) (sym lines) in
    grew ∙ (ap (λ t. t ++ (caller_line c phase ++ codes "\n")) before ∙ (sym (text_of-push (front ++ active ∷ caller_lines 0 (take c phases)) (caller_line c phase)) ∙ ap text_of whole))
