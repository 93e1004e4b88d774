-- The printed lines are those of the history.
use Rattle.std.proofs.Common.{◌≡◌, ℕ, zero, suc, ◌+◌, ◌<◌, ◌≤◌, List, [], ◌∷◌, ◌++◌, length, map, reverse, get_or, refl, sym, ap, ◌∙◌, subst, arith}
use Rattle.std.specs.Prelude.{All, IfOk, Ok, Err}
use Rattle.std.specs.declared.result.Result.{Result}
use Rattle.std.specs.declared.alloc.AllocError.{AllocError}
use Rattle.std.specs.List.{flat_map, range_with_len}
use Rattle.std.specs.Global.{Vec}
use Rattle.std.proofs.lemmas.Grind.{flat_map-append}
use Rattle.std.proofs.lemmas.List.{append-nil, get_or-map}
use Rattle.std.proofs.lemmas.List.Concat.{flat_map-cons}
use Rattle.std.proofs.lemmas.List.Folds.{flat_map-map}
use Rattle.std.proofs.lemmas.List.FromFn.{map-range_with_len_more}
use Rattle.bay_core.specs.declared.calls.Entry.{Entry}
use Rattle.bay_core.specs.Noted.{after, entries}
use Rattle.bay_core.specs.Told.{of_caller, AreOwn}
use Rattle.bay_core.proofs.Backwards.{told_in_order}
use Rattle.room_history.specs.Prints.{entry_line, lists_text}
use Rattle.room_script.specs.declared.trials.Line.{Line}
use Rattle.room_script.specs.Trials.{Outline}
use Rattle.room_trial.specs.Histories.{script_of, lists_of, IsPlayed, AreAnswers}
use Rattle.room_trial.specs.declared.crews.Played.{Played}
use Rattle.room_trial.specs.Texts.{answered_line, answered_below, answered_text, IsTrialText}

-- lines that are the same at each number of a range are the same
same_lines : (f g : ℕ → List ℕ) (a n : ℕ) → ((c : ℕ) → a ≤ c → c < a + n → f c ≡ g c)
    → flat_map f (range_with_len a n) ≡ flat_map g (range_with_len a n)
same_lines f g a zero same = refl
same_lines f g a (suc n) same =
    flat_map-cons f a (range_with_len (a + 1) n)
    ∙ (ap (λ x. x ++ flat_map f (range_with_len (a + 1) n)) (same a (omega arith) (omega arith))
    ∙ (ap (λ x. g a ++ x) (same_lines f g (a + 1) n (λ c low high. same c (omega (arith, low)) (omega (arith, high))))
    ∙ sym (flat_map-cons g a (range_with_len (a + 1) n))))

-- the callers' lines, by their lists and by the history
answered_same : (o : Outline) (lists : List (List Entry)) (es : List Entry) → AreOwn lists es
    → length lists ≡ length o.scripts → answered_below lists o.scripts (length o.scripts) ≡ answered_text o es
answered_same o lists es own many =
    same_lines
    (λ c. answered_line c (length (get_or lists c [])) (length (script_of o c)))
    (λ c. answered_line c (length (of_caller c es)) (length (script_of o c)))
    0 (length o.scripts)
    (λ c low high. ap (λ k. answered_line c (length k) (length (script_of o c))) (own.own c (omega (arith, high, many))))

-- the text of a trial, from what its callers brought back
trial_told : (o : Outline) (played : Played) (is : IsPlayed o played) (es : List Entry) (text : List ℕ)
    → es ≡ reverse (entries is.bay.history)
    → text ≡ flat_map entry_line es
    ++ (answered_below (lists_of played) o.scripts (length o.scripts)
    ++ lists_text played.closed.stack.items played.closed.queue.items)
    → IsTrialText o text
trial_told o played is es text whole printed =
    let bay = is.bay in let lists = lists_of played in let h = bay.history in
    let left = after h in let all = reverse (entries h) in
    let order = told_in_order o.layout o.blocks h bay.legal in
    record {
      history = all;
      left = left;
      is_history = record {
        legal = order.legal;
        roomed = order.roomed;
        callers = subst (λ (n : ℕ). All (λ e. e.who < n) all) bay.many bay.own.callers;
        answers = λ c within.
            subst (AreAnswers o all c) (bay.own.own c (omega (arith, within, bay.many))) (bay.answers c within);
      };
      printed = printed
          ∙ (ap (λ ds. flat_map entry_line ds ++ (answered_below lists o.scripts (length o.scripts) ++ lists_text played.closed.stack.items played.closed.queue.items)) whole
          ∙ (ap (λ lines. flat_map entry_line all ++ (lines ++ lists_text played.closed.stack.items played.closed.queue.items))
          (answered_same o lists all bay.own bay.many)
          ∙ (ap (λ stack. flat_map entry_line all ++ (answered_text o all ++ lists_text stack played.closed.queue.items)) is.stack
          ∙ ap (λ queue. flat_map entry_line all ++ (answered_text o all ++ lists_text left.stack queue)) is.queue)));
    }

-- the lines of one caller more
pub one_line_more : (lists : List (List Entry)) (scripts : List (List Line)) (n : ℕ)
    → answered_below lists scripts (n + 1)
    ≡ answered_below lists scripts n ++ answered_line n (length (get_or lists n [])) (length (get_or scripts n []))
one_line_more lists scripts n =
    let f : ℕ → List ℕ = λ c. answered_line c (length (get_or lists c [])) (length (get_or scripts c [])) in
    let whole : List (List ℕ) → List ℕ = flat_map (λ x. x) in
    let so_far = range_with_len 0 n in
    sym (flat_map-map (λ x. x) f (range_with_len 0 (n + 1)))
    ∙ (ap whole (map-range_with_len_more f 0 n n (omega arith))
    ∙ (flat_map-append (λ x. x) (map f so_far) (f n ∷ [])
    ∙ (ap (λ x. x ++ whole (f n ∷ [])) (flat_map-map (λ x. x) f so_far)
    ∙ ap (λ x. flat_map f so_far ++ x) (flat_map-cons (λ x. x) (f n) [] ∙ append-nil (f n)))))

-- a number of items that was read off a list of vectors
pub read_length : {A : Type 0} (lists : List (Vec A)) (i k : ℕ) (d : Vec A) → i < length lists
    → k ≡ length (get_or lists i d).items → k ≡ length (get_or (map (λ list. list.items) lists) i [])
read_length lists i k d within is =
    is ∙ ap (λ l. length l) (sym (get_or-map (λ (list : Vec _). list.items) lists i d [] within))

-- if there was memory for it
pub trial_printed : (o : Outline) (played : Played) (is : IsPlayed o played) (es : List Entry)
    (text : Result (Vec ℕ) AllocError) → es ≡ reverse (entries is.bay.history)
    → IfOk text (λ t. t.items ≡ flat_map entry_line es
    ++ (answered_below (lists_of played) o.scripts (length o.scripts)
    ++ lists_text played.closed.stack.items played.closed.queue.items))
    → IfOk text (λ t. IsTrialText o t.items)
trial_printed o played is es (Ok t) whole printed = trial_told o played is es t.items whole printed
trial_printed o played is es (Err e) whole printed = tt
