-- The lines of scripts.
use Rattle.std.proofs.Common.{◌≡◌, ◌≢◌, ℕ, ◌+◌, ◌<◌, ◌≤◌, ◌⊎◌, inl, inr, Bool, false, cond, eqb, List, [], ◌∷◌, ◌++◌, length, get_or, drop, map, append_assoc, ap, sym, refl, ◌∙◌, subst, arith}
use Rattle.std.specs.Prelude.{All, count_by}
use Rattle.std.specs.List.{flat_map}
use Rattle.std.proofs.lemmas.Grind.{flat_map-append}
use Rattle.std.proofs.lemmas.List.{append-nil, map_push, length-append}
use Rattle.std.proofs.lemmas.List.Elements.{All-nil, All-cons, All-head, All-tail, All-append, All-push}
use Rattle.std.proofs.lemmas.List.Sums.{sum_by-cons, sum_by-append}
use Rattle.room_script.specs.declared.trials.Line.{Line}
use Rattle.room_script.specs.declared.trials.Line.TheVariants.{Push, Pop, Enq, Deq, Peek, Sizes}
use Rattle.room_script.specs.Trials.{IsCall, HasLine, IsCallLine, call_line, caller_line, script_lines, AreScripts}
use Rattle.room_script.proofs.Calls.{call_line-injective, caller_no_call}

-- a line of a script, in a form
abbrev pub IsRow : ℕ → List ℕ → Type 0
IsRow form line = (line ≡ caller_line) ⊎ ((a : Line) × IsCallLine form line a)

each_call : (form : ℕ) (s : List Line) → All IsCall s → All (HasLine form) s → All (IsRow form) (map call_line s)
each_call form [] fit lined = All-nil (IsRow form)
each_call form (a ∷ s) fit lined =
    All-cons (IsRow form) (call_line a) (map call_line s) (inr (a, (All-head IsCall a s fit, All-head (HasLine form) a s lined, refl)))
    (each_call form s (All-tail IsCall a s fit) (All-tail (HasLine form) a s lined))

pub each_row : (form : ℕ) (scripts : List (List Line)) → All (All IsCall) scripts → All (All (HasLine form)) scripts → All (IsRow form) (flat_map script_lines scripts)
each_row form [] fit lined = All-nil (IsRow form)
each_row form (s ∷ scripts) fit lined =
    All-append (IsRow form) (script_lines s) (flat_map script_lines scripts)
    (All-cons (IsRow form) caller_line (map call_line s) (inl refl)
    (each_call form s (All-head (All IsCall) s scripts fit) (All-head (All (HasLine form)) s scripts lined)))
    (each_row form scripts (All-tail (All IsCall) s scripts fit) (All-tail (All (HasLine form)) s scripts lined))

-- whether a line begins as the first one of a script does
abbrev pub begins : List ℕ → Bool
begins line = eqb (get_or line 0 0) 99

abbrev pub begun : List (List ℕ) → ℕ
begun lines = count_by begins lines

pub begun_cons : (line : List ℕ) (lines : List (List ℕ)) → begun (line ∷ lines) ≡ cond (begins line) 1 0 + begun lines
begun_cons line lines = sum_by-cons (λ l. cond (begins l) 1 0) line lines

pub begun_append : (xs ys : List (List ℕ)) → begun (xs ++ ys) ≡ begun xs + begun ys
begun_append xs ys = sum_by-append (λ l. cond (begins l) 1 0) xs ys

begins_none : (a : Line) → begins (call_line a) ≡ false
begins_none (Push x) = refl
begins_none Pop = refl
begins_none (Enq x) = refl
begins_none Deq = refl
begins_none Peek = refl
begins_none Sizes = refl

begun_calls : (s : List Line) → begun (map call_line s) ≡ 0
begun_calls [] = refl
begun_calls (a ∷ s) = begun_cons (call_line a) (map call_line s) ∙ (ap (λ b. cond b 1 0 + begun (map call_line s)) (begins_none a) ∙ omega (arith, begun_calls s))

-- as many scripts are begun as there are
pub begun_scripts : (scripts : List (List Line)) → begun (flat_map script_lines scripts) ≡ length scripts
begun_scripts [] = refl
begun_scripts (s ∷ scripts) =
    omega (
      arith,
      begun_append (script_lines s) (flat_map script_lines scripts),
      begun_cons caller_line (map call_line s),
      begun_calls s,
      begun_scripts scripts,
    )

-- one script more
pub lines_caller : (scripts : List (List Line)) → flat_map script_lines (scripts ++ [] ∷ []) ≡ flat_map script_lines scripts ++ caller_line ∷ []
lines_caller scripts = flat_map-append script_lines scripts ([] ∷ [])

-- one call more
pub lines_call : (scripts : List (List Line)) (s : List Line) (a : Line) → flat_map script_lines (scripts ++ (s ++ a ∷ []) ∷ []) ≡ flat_map script_lines (scripts ++ s ∷ []) ++ call_line a ∷ []
lines_call [] s a =
    append-nil (script_lines (s ++ a ∷ [])) ∙ (ap (λ xs. caller_line ∷ xs) (map_push call_line s a) ∙ sym (ap (λ xs. xs ++ call_line a ∷ []) (append-nil (script_lines s))))
lines_call (x ∷ scripts) s a =
    ap (λ xs. script_lines x ++ xs) (lines_call scripts s a) ∙ sym (append_assoc (script_lines x) (flat_map script_lines (scripts ++ s ∷ [])) (call_line a ∷ []))

pub last_is : (P : List Line → Type 0) (scripts : List (List Line)) (s t : List Line) → (P s → P t) → All P (scripts ++ s ∷ []) → All P (scripts ++ t ∷ [])
last_is P [] s t f all = All-cons P t [] (f (All-head P s [] all)) (All-nil P)
last_is P (x ∷ scripts) s t f all = All-cons P x (scripts ++ t ∷ []) (All-head P x (scripts ++ s ∷ []) all) (last_is P scripts s t f (All-tail P x (scripts ++ s ∷ []) all))

pub scripts_call : (scripts : List (List Line)) (s : List Line) (a : Line) → AreScripts (scripts ++ s ∷ []) → IsCall a → AreScripts (scripts ++ (s ++ a ∷ []) ∷ [])
scripts_call scripts s a are is = record {
  some = omega (arith, length-append scripts ((s ++ a ∷ []) ∷ []));
  few = omega (arith, are.few, length-append scripts (s ∷ []), length-append scripts ((s ++ a ∷ []) ∷ []));
  calls = last_is (All IsCall) scripts s (s ++ a ∷ []) (λ all. All-push IsCall s a all is) are.calls;
}

pub scripts_caller : (scripts : List (List Line)) → AreScripts scripts → length scripts < 64 → AreScripts (scripts ++ [] ∷ [])
scripts_caller scripts are few = record {
  some = omega (arith, length-append scripts ([] ∷ []));
  few = omega (arith, few, length-append scripts ([] ∷ []));
  calls = All-push (All IsCall) scripts [] are.calls (All-nil IsCall);
}

-- a script's calls end where the next one begins
calls_same : (s t : List Line) (xs ys : List (List Line)) → All IsCall s → All IsCall t → map call_line s ++ flat_map script_lines xs ≡ map call_line t ++ flat_map script_lines ys
    → (s ≡ t) × (flat_map script_lines xs ≡ flat_map script_lines ys)
calls_same [] [] xs ys fit fit' e = (refl, e)
calls_same [] (b ∷ t) [] ys fit fit' e = absurd (omega (arith, ap length e))
calls_same [] (b ∷ t) (x ∷ xs) ys fit fit' e = absurd (caller_no_call b (ap (λ ls. get_or ls 0 []) e))
calls_same (a ∷ s) [] xs [] fit fit' e = absurd (omega (arith, ap length e))
calls_same (a ∷ s) [] xs (y ∷ ys) fit fit' e = absurd (caller_no_call a (ap (λ ls. get_or ls 0 []) (sym e)))
calls_same (a ∷ s) (b ∷ t) xs ys fit fit' e =
    let heads : a ≡ b = call_line-injective a b (All-head IsCall a s fit) (All-head IsCall b t fit') (ap (λ ls. get_or ls 0 []) e) in
    let rest = calls_same s t xs ys (All-tail IsCall a s fit) (All-tail IsCall b t fit') (ap (drop 1) e) in
    (ap (λ z. z ∷ s) heads ∙ ap (λ zs. b ∷ zs) rest.0, rest.1)

pub scripts_same : (xs ys : List (List Line)) → All (All IsCall) xs → All (All IsCall) ys → flat_map script_lines xs ≡ flat_map script_lines ys → xs ≡ ys
scripts_same [] [] fit fit' e = refl
scripts_same [] (y ∷ ys) fit fit' e = absurd (omega (arith, ap length e))
scripts_same (x ∷ xs) [] fit fit' e = absurd (omega (arith, ap length e))
scripts_same (x ∷ xs) (y ∷ ys) fit fit' e =
    let first = calls_same x y xs ys (All-head (All IsCall) x xs fit) (All-head (All IsCall) y ys fit') (ap (drop 1) e) in
    ap (λ z. z ∷ xs) first.0 ∙ ap (λ zs. y ∷ zs) (scripts_same xs ys (All-tail (All IsCall) x xs fit) (All-tail (All IsCall) y ys fit') first.1)
