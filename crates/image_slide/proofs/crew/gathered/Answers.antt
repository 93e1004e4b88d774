use Rattle.std.proofs.Common.{◌≡◌, ℕ, List, [], ◌∷◌, ◌++◌, length, map, inl, inr, refl, sym, ap, subst, arith}
use mathlib.Core.Option.{some-ne-none}
use Rattle.std.specs.List.{flat_map}
use Rattle.std.proofs.lemmas.List.{append-nil, map-append, nil_from_length}
use Rattle.std.proofs.lemmas.List.Concat.{flat_map-append}
use Rattle.std.proofs.lemmas.List.Elements.{All-same, All-append}
use Rattle.atomic_table.proofs.Lists.{at_longer, at_last, at_snoc}
use Rattle.room_rule.specs.Use.{IsAt}
use Rattle.bay_core.specs.Times.{times}
use Rattle.bay_core.proofs.Counts.{times-none, times-append}
use Rattle.image_slide.specs.Parts.{IsSlid}
use Rattle.image_slide.specs.Sliding.{Sliding, Accounts}
use Rattle.image_slide.specs.declared.pieces.Part.{Part}
use Rattle.image_slide.proofs.Account.{slid_of}
use Rattle.image_slide.proofs.crew.gathered.Goals as goal

abbrev slid_by_all : List Sliding → List ℕ
slid_by_all works = flat_map (λ (m : Sliding). m.slid) works

pub loop-work-preserved : goal.loop-work-preserved
loop-work-preserved c =
    let inv = c.loop-work.invariant in let work = c.in-Some.work in let rest = c.pop.new.self.items in
    let popped = c.in-Some.ensures.items in let pushed = c.in_ok-append.ensures.items in
    let parts = c.loop-work.parts.items in let more = c.into_parts-more.result.items in
    let own = c.into_parts-more.ensures in
    record {
      numbers = λ p. omega (
        arith,
        inv.numbers p,
        ap (λ (l : List Part). times p (map (λ part. part.piece) l)) pushed,
        ap (times p) (map-append (λ (part : Part). part.piece) parts more),
        times-append p (map (λ (part : Part). part.piece) parts) (map (λ (part : Part). part.piece) more),
        ap (times p) own.numbers,
        ap (λ (l : List Sliding). times p (slid_by_all l)) popped,
        ap (times p) (flat_map-append (λ (m : Sliding). m.slid) rest (work ∷ [])),
        times-append p (slid_by_all rest) (work.slid ++ []),
        ap (times p) (append-nil work.slid),
      );
      slid = λ heap marks ranks all.
          let old = inv.slid heap marks ranks all in
          let of = old.0 (length rest) work (subst (λ (l : List Sliding). IsAt l (length rest) work) (sym popped) (at_last rest work (length rest) refl)) in (
            (λ i m at. old.0 i m (subst (λ (l : List Sliding). IsAt l i m) (sym popped) (at_longer rest (work ∷ []) i m at))),
            All-same (IsSlid heap marks ranks) c.append.new.self.items _ pushed
                (All-append (IsSlid heap marks ranks) parts more old.1 (slid_of heap marks ranks work more of own.slid)),
          );
      accounts = λ i m at. elim (inv.accounts i m at) [
        | inl here ↦ elim (at_snoc rest work m i (subst (λ (l : List Sliding). IsAt l i m) popped here)) [
          | inl old ↦ inl old
          | inr same ↦ inr (subst Accounts same own.accounts)
        ]
        | inr done ↦ inr done
      ];
    }

pub returns-clause-numbers : goal.returns-clause-numbers
returns-clause-numbers c p =
    let none : c.loop-work.rest.items ≡ [] = nil_from_length _ (omega (arith, c.in_default.ensures.cases, c.loop-work.rest.ok.0)) in
    omega (arith, c.loop-work.invariant.numbers p, ap (λ (l : List Sliding). times p (slid_by_all l)) none, times-none p)

pub returns-clause-accounts : goal.returns-clause-accounts
returns-clause-accounts c i m at =
    let none : c.loop-work.rest.items ≡ [] = nil_from_length _ (omega (arith, c.in_default.ensures.cases, c.loop-work.rest.ok.0)) in
    elim (c.loop-work.invariant.accounts i m at) [
      | inl here ↦ absurd (some-ne-none m (sym (subst (λ (l : List Sliding). IsAt l i m) none here)))
      | inr done ↦ done
    ]
