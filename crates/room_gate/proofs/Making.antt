-- What the loops of a set-up keep.
use Rattle.std.proofs.Common.{Option, None, ◌≡◌, ℕ, ◌+◌, List, [], ◌∷◌, ◌++◌, length, refl, ap, sym, ◌∙◌, subst, length-append, arith, ⊎_elim}
use Rattle.atomic_table.specs.Seated.{TableId}
use Rattle.room_rule.specs.Told.{Seated, Carries}
use Rattle.room_rule.specs.View.{after_hire, hired}
use Rattle.atomic_table.specs.declared.shared.Seat.{Seat}
use Rattle.room_rule.specs.declared.views.Shown.{Shown}
use Rattle.room_gate.specs.PassModel.{seen_of}
use Rattle.room_rule.specs.declared.views.Role.TheVariants.{Maker}
use Rattle.room_rule.proofs.Lists.{at_end, none_there}
use Rattle.room_gate.specs.Shows.{Caller, newcomer}
use Rattle.room_gate.specs.Making.{ArePasses}

-- what no slot is carried for
pub carries_none : {S : Type 0} (keeps : Option ℕ) (carried : List (ℕ × Option S)) → keeps ≡ None
    → carried ≡ [] → Carries keeps carried
carries_none keeps carried e f = subst (λ (z : Option ℕ). Carries z carried) (sym e) f

pub none_carried : {S : Type 0} (keeps : Option ℕ) (carried : List (ℕ × Option S)) → keeps ≡ None
    → Carries keeps carried → carried ≡ []
none_carried keeps carried e f = subst (λ (z : Option ℕ). Carries z carried) e f

-- the maker has made one pass more
pub maker_again : {S V : Type 0} (before after : Seated S V) (who : ℕ)
    → after ≡ (after_hire before.0, before.1) → before.0.role ≡ Maker → before.0.who ≡ who
    → (after.0.role ≡ Maker) × (after.0.who ≡ who + 1)
maker_again before after who e role number = (
  ap (λ (z : Seated _ _). z.0.role) e ∙ role,
  ap (λ (z : Seated _ _). z.0.who) e ∙ ap (λ (n : ℕ). n + 1) number,
)

-- a seat that the maker has made is a newcomer's
pub hired_is_new : {S V : Type 0} (starts : ℕ → V) (seat : Seat (Option S) (Shown V)) (maker : Shown V)
    (site : TableId) (limit who : ℕ) → seat.table_id ≡ site → seat.me ≡ (hired starts maker, [])
    → maker.who ≡ who → seen_of seat who 0 limit ≡ newcomer site limit starts who
hired_is_new starts seat maker site limit who own e number = λ i. record {
  site = own i;
  who = who;
  draws = 0;
  limit = limit;
  user = (ap (λ (z : Seated _ _). z.0.user) e ∙ ap starts number) i;
  seen = (e i).0.seen;
  first = (e i).0.first;
  loads = (e i).0.loads;
  done = (e i).0.done;
}

module _ {V : Type 0} (site : TableId) (limit : ℕ) (starts : ℕ → V) where
  pub no_passes : ArePasses site limit starts 0 []
  no_passes = record { long = refl; each = λ i p at. absurd (none_there i p at) }

  -- one pass more
  pub passes_more : (made : ℕ) (passes more : List (Caller V)) (p : Caller V)
      → more ≡ passes ++ p ∷ [] → p ≡ newcomer site limit starts made
      → ArePasses site limit starts made passes → ArePasses site limit starts (made + 1) more
  passes_more made passes more p is new h =
      subst (ArePasses site limit starts (made + 1)) (sym is) (record {
        long = (let l = h.long in
            let q : length (passes ++ p ∷ []) ≡ length passes + 1 = length-append passes (p ∷ []) in
            omega arith);
        each = λ i q at. ⊎_elim (λ f. h.each i q f)
            (λ (t : (i ≡ length passes) × (p ≡ q)). sym t.1 ∙ new
            ∙ ap (newcomer site limit starts) (sym (t.0 ∙ h.long)))
            (at_end passes p q i at);
      })

-- of two that are taken one by one, both are told
pub two_of : {A : Type 0} (all rest less : List A) (one two : A) → all ≡ rest ++ two ∷ [] → rest ≡ less ++ one ∷ []
    → length all ≡ 2 → all ≡ one ∷ two ∷ []
two_of all rest [] one two a b long = a ∙ ap (λ l. l ++ two ∷ []) b
two_of all rest (x ∷ less) one two a b long =
    absurd (omega (arith, long, ap length a, ap length b, length-append rest (two ∷ []), length-append less (one ∷ [])))
