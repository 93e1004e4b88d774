-- The entries that a handful adds to its caller's own.
use Rattle.std.proofs.Common.{◌≡◌, ◌∙◌, ℕ, ◌+◌, true, false, List, [], ◌∷◌, ◌++◌, length, map, take, drop, refl, sym, ap, subst, inl, inr, arith}
use Rattle.std.proofs.lemmas.List.{append_assoc, append-nil, map-append, take-append-drop, take-take, drop-take, drop-drop}
use Rattle.room_gate.specs.Shows.{Caller}
use Rattle.bay_core.specs.declared.calls.Op.TheVariants.{Push}
use Rattle.bay_core.specs.declared.calls.Reply.{Reply}
use Rattle.bay_core.specs.declared.calls.Reply.TheVariants as replies
use Rattle.bay_core.specs.declared.calls.Entry.{Entry}
use Rattle.bay_core.specs.declared.calls.Noted.{Noted}
use Rattle.bay_core.specs.Noted.{after, entry_in}
use Rattle.bay_core.specs.History.{own}
use Rattle.bay_core.specs.Told.{Gained}
use Rattle.bay_core.proofs.OwnCalls.{own_same}
use Rattle.bay_core.proofs.Telling.{gained_none, gained_call, gained_more, gained_seeing}
use Rattle.bay_rule.specs.declared.bay_use.BayUse.{BayUse}
use Rattle.bay_rule.specs.declared.views.BayView.{BayView}
use Rattle.bay_rule.specs.Leaving.{note, pushed, pushes}
use Rattle.bay_rule.specs.Keeping.Several.{own_pushes}
use Rattle.bay_store.specs.Adding.{known}
use Rattle.bay_store.specs.Handfuls.{says, pushed_as, refused_of, DrawsSome, AddsSome, Puts, PutsOnce, HasSpilled, PutsEntries}
use Rattle.bay_store.specs.Handfuls.HasSpilled.{none, more}
use Rattle.bay_store.specs.declared.receipts.Stop.{Stop}
use Rattle.bay_store.specs.declared.receipts.Stop.TheVariants.{All, Full, Overflow, Spent}
use Rattle.bay_store.proofs.PuttingSome.{ran}

nothing : (xs : List ℕ) → length xs ≡ 0 → xs ≡ []
nothing [] e = refl
nothing (x ∷ xs) e = absurd (omega (arith, e))

-- the first items, and then those behind them
take_sum : (n m : ℕ) (xs : List ℕ) → take (n + m) xs ≡ take n xs ++ take m (drop n xs)
take_sum n m xs =
    sym (take-append-drop n (take (n + m) xs))
    ∙ (ap (λ l. l ++ drop n (take (n + m) xs)) (take-take n (n + m) xs (omega arith))
    ∙ ap (λ l. take n xs ++ l) (drop-take n m xs))

module _ (t c : ℕ) where
  -- the entries of pushes with this reply, the oldest first
  abbrev listed : ℕ → Reply → List ℕ → List Entry
  listed r reply [] = []
  listed r reply (x ∷ xs) = record { turn = t; rank = r; who = c; op = Push; arg = x; reply = reply } ∷ listed (r + 1) reply xs

  listed_says : (r : ℕ) (reply : Reply) (xs : List ℕ) → map says (listed r reply xs) ≡ pushed_as reply xs
  listed_says r reply [] = refl
  listed_says r reply (x ∷ xs) = ap (λ l. (Push, (x, reply)) ∷ l) (listed_says (r + 1) reply xs)

  -- one push more
  one_more : (r x : ℕ) (past h made : List Noted) (es : List Entry) → Gained c past h made es
      → Gained c past (note t r c Push x true ∷ h) (note t r c Push x true ∷ made) (es ++ entry_in (after h) (note t r c Push x true) ∷ [])
  one_more r x past h made es g =
      let n = note t r c Push x true in
      gained_more c past h (n ∷ h) made (n ∷ made) es _ g
      (gained_call c n h h made _ ([], refl) refl g.mine (ap (λ l. n ∷ l) g.mine ∙ sym (own_same n h c refl)) refl)

  one_refused : (r x : ℕ) (past h made : List Noted) (es : List Entry) → Gained c past h made es
      → Gained c past (note t r c Push x false ∷ h) (note t r c Push x false ∷ made) (es ++ entry_in (after h) (note t r c Push x false) ∷ [])
  one_refused r x past h made es g =
      let n = note t r c Push x false in
      gained_more c past h (n ∷ h) made (n ∷ made) es _ g
      (gained_call c n h h made _ ([], refl) refl g.mine (ap (λ l. n ∷ l) g.mine ∙ sym (own_same n h c refl)) refl)

  gained_stored : (r : ℕ) (xs : List ℕ) (past h made : List Noted) (es : List Entry) → Gained c past h made es
      → Gained c past (pushed t r c true xs h) (pushed t r c true xs made) (es ++ listed r replies.Done xs)
  gained_stored r [] past h made es g = subst (Gained c past h made) (sym (append-nil es)) g
  gained_stored r (x ∷ xs) past h made es g =
      let n = note t r c Push x true in
      subst (Gained c past (pushed t (r + 1) c true xs (n ∷ h)) (pushed t (r + 1) c true xs (n ∷ made)))
      (append_assoc es (entry_in (after h) n ∷ []) (listed (r + 1) replies.Done xs))
      (gained_stored (r + 1) xs past (n ∷ h) (n ∷ made) _ (one_more r x past h made es g))

  gained_refused : (r : ℕ) (xs : List ℕ) (past h made : List Noted) (es : List Entry) → Gained c past h made es
      → Gained c past (pushed t r c false xs h) (pushed t r c false xs made) (es ++ listed r replies.Full xs)
  gained_refused r [] past h made es g = subst (Gained c past h made) (sym (append-nil es)) g
  gained_refused r (x ∷ xs) past h made es g =
      let n = note t r c Push x false in
      subst (Gained c past (pushed t (r + 1) c false xs (n ∷ h)) (pushed t (r + 1) c false xs (n ∷ made)))
      (append_assoc es (entry_in (after h) n ∷ []) (listed (r + 1) replies.Full xs))
      (gained_refused (r + 1) xs past (n ∷ h) (n ∷ made) _ (one_refused r x past h made es g))

  -- pushes after calls tell which those were
  same_stored : (r : ℕ) (xs : List ℕ) (a b : List Noted) → pushed t r c true xs a ≡ pushed t r c true xs b → a ≡ b
  same_stored r [] a b e = e
  same_stored r (x ∷ xs) a b e =
      let tails = same_stored (r + 1) xs (note t r c Push x true ∷ a) (note t r c Push x true ∷ b) e in cc

  same_refused : (r : ℕ) (xs : List ℕ) (a b : List Noted) → pushed t r c false xs a ≡ pushed t r c false xs b → a ≡ b
  same_refused r [] a b e = e
  same_refused r (x ∷ xs) a b e =
      let tails = same_refused (r + 1) xs (note t r c Push x false ∷ a) (note t r c Push x false ∷ b) e in cc

  same_pushes : (r : ℕ) (stored refused : List ℕ) (a b : List Noted) → pushes t r c stored refused a ≡ pushes t r c stored refused b → a ≡ b
  same_pushes r stored refused a b e =
      same_stored r stored a b (same_refused (r + length stored) refused (pushed t r c true stored a) (pushed t r c true stored b) e)

-- entries that a caller gained, which say this
pub record Gains (who : ℕ) (past seen made : List Noted) (stored refused : List ℕ) : Type 0 where
  pub entries : List Entry
  pub gained : Gained who past seen made entries
  pub told : map says entries ≡ pushed_as replies.Done stored ++ pushed_as replies.Full refused

module _ (x : BayUse) (items : List ℕ) (who turn rank stored : ℕ) (stop : Stop) (v w : BayView)
    (d : DrawsSome x items who turn rank stored stop v w) (mine : v.mine ≡ own who v.seen) where
  -- those of one handful
  gained_some : Gains who v.seen w.seen w.mine (take stored items) (refused_of stop (drop stored items))
  gained_some = elim d.gains [
    | inl g ↦ with_entries g
    | inr g ↦ without g.0 g.1.seen (g.1.mine ∙ (mine ∙ ap (own who) (sym g.1.seen)))
  ]
    where
      with_entries : AddsSome x who turn rank (take stored items) (refused_of stop (drop stored items)) d.history v.mine (known w)
          → Gains who v.seen w.seen w.mine (take stored items) (refused_of stop (drop stored items))
      with_entries g =
          let s = take stored items in let r = refused_of stop (drop stored items) in
          let of_history : own who d.history ≡ v.mine = same_pushes turn who rank s r (own who d.history) v.mine
          (sym (own_pushes turn who rank s r d.history) ∙ (ap (own who) (sym g.seen) ∙ (sym g.all_mine ∙ g.mine))) in
          let begins : Gained who v.seen d.history v.mine [] = gained_seeing who v.seen v.seen d.history v.mine [] (gained_none who v.seen v.mine mine) d.goes_on (sym of_history) in
          let es = listed turn who rank replies.Done s in let fs = listed turn who (rank + length s) replies.Full r in
          let all : Gained who v.seen (pushes turn rank who s r d.history) (pushes turn rank who s r v.mine) (es ++ fs) =
          gained_refused turn who (rank + length s) r v.seen (pushed turn rank who true s d.history) (pushed turn rank who true s v.mine) es
          (gained_stored turn who rank s v.seen d.history v.mine [] begins) in
          record {
            entries = es ++ fs;
            gained = subst (λ l. Gained who v.seen l w.mine (es ++ fs)) (sym g.seen)
                (subst (λ l. Gained who v.seen (pushes turn rank who s r d.history) l (es ++ fs)) (sym g.mine) all);
            told = map-append says es fs
                ∙ (ap (λ l. l ++ map says fs) (listed_says turn who rank replies.Done s)
                ∙ ap (λ l. pushed_as replies.Done s ++ l) (listed_says turn who (rank + length s) replies.Full r));
          }

      without : length (take stored items) + length (refused_of stop (drop stored items)) ≡ 0 → w.seen ≡ v.seen → w.mine ≡ own who w.seen
          → Gains who v.seen w.seen w.mine (take stored items) (refused_of stop (drop stored items))
      without short same all =
          let s = take stored items in let r = refused_of stop (drop stored items) in
          record {
            entries = [];
            gained = subst (λ l. Gained who l w.seen w.mine []) same (gained_none who w.seen w.mine all);
            told = sym (ap (λ l. pushed_as replies.Done l ++ pushed_as replies.Full r) (nothing s (omega (arith, short)))
                ∙ ap (λ l. pushed_as replies.Full l) (nothing r (omega (arith, short))));
          }

-- one after another
joined : (who : ℕ) (past mid seen made last : List Noted) (s u w r q : List ℕ) → Gains who past mid made s []
    → Gains who mid seen last u r → w ≡ s ++ u → r ≡ q → Gains who past seen last w q
joined who past mid seen made last s u w r q a b e f =
    let d = pushed_as replies.Done in
    subst (λ l. Gains who past seen last w l) f (subst (λ l. Gains who past seen last l r) (sym e) (record {
      entries = a.entries ++ b.entries;
      gained = gained_more who past mid seen made last a.entries b.entries a.gained b.gained;
      told = map-append says a.entries b.entries
          ∙ (ap (λ l. l ++ map says b.entries) (a.told ∙ append-nil (d s))
          ∙ (ap (λ l. d s ++ l) b.told
          ∙ (sym (append_assoc (d s) (d u) (pushed_as replies.Full r))
          ∙ ap (λ l. l ++ pushed_as replies.Full r) (sym (map-append (λ i. (Push, (i, replies.Done))) s u)))));
    }))

module _ (x : BayUse) (items : List ℕ) (before : Caller BayView) (mine : before.user.mine ≡ own before.who before.user.seen) where
  -- of one handful of a call
  part_of : (mid now : Caller BayView) (left : List ℕ) (part : ℕ) (stop : Stop) → mid.who ≡ before.who → mid.user.mine ≡ own before.who mid.user.seen
      → Puts x left part stop mid now
      → Gains before.who mid.user.seen now.user.seen now.user.mine (take part left) (refused_of stop (drop part left))
  part_of mid now left part stop who own' p =
      gained_some x left before.who p.turn p.rank part stop mid.user now.user
      (subst (λ n. DrawsSome x left n p.turn p.rank part stop mid.user now.user) who p.draws) own'

  -- of a run of overflows
  ran_entries : (times stored : ℕ) (mid : Caller BayView) → HasSpilled x items before times stored mid
      → Gains before.who before.user.seen mid.user.seen mid.user.mine (take stored items) []
  ran_entries _ _ _ none = record { entries = []; gained = gained_none before.who before.user.seen before.user.mine mine; told = refl }
  ran_entries _ _ _ (more times stored part mid now run p) =
      let a = ran_entries times stored mid run in
      joined before.who before.user.seen mid.user.seen now.user.seen mid.user.mine now.user.mine _ _ _ _ [] a
      (part_of mid now (drop stored items) part Overflow (ap (λ (m : Caller BayView). m.who) (ran x items before times stored mid run)) a.gained.mine p)
      (take_sum stored part items) refl

  -- of a whole call
  module _ (times stored part total : ℕ) (mid now : Caller BayView) (run : HasSpilled x items before times stored mid) (sum : total ≡ stored + part) where
    with_last : (stop : Stop) → Puts x (drop stored items) part stop mid now → PutsEntries items before now (record { stored = total; stop = stop })
    with_last stop p =
        let a = ran_entries times stored mid run in
        let g = joined before.who before.user.seen mid.user.seen now.user.seen mid.user.mine now.user.mine _ _ (take total items) _ (refused_of stop (drop total items)) a
        (part_of mid now (drop stored items) part stop (ap (λ (m : Caller BayView). m.who) (ran x items before times stored mid run)) a.gained.mine p)
        (ap (λ n. take n items) sum ∙ take_sum stored part items)
        (ap (λ l. refused_of stop l) (drop-drop part stored items ∙ ap (λ n. drop n items) (sym sum))) in
        record { entries = g.entries; gained = g.gained; told = g.told }

    pub puts_entries : (stop : Stop) → PutsOnce x (drop stored items) part stop mid now
        → PutsEntries items before now (record { stored = total; stop = stop })
    puts_entries All p = with_last All p
    puts_entries Full p = with_last Full p
    puts_entries Overflow p = with_last Overflow p
    puts_entries Spent p =
        let a = ran_entries times stored mid run in
        let b = subst (λ (z : Caller BayView). Gains before.who before.user.seen z.user.seen z.user.mine (take stored items) []) (sym p.2) a in
        let same : stored ≡ total = omega (arith, sum, p.1) in
        let g = subst (λ n. Gains before.who before.user.seen now.user.seen now.user.mine (take n items) []) same b in
        record { entries = g.entries; gained = g.gained; told = g.told }
