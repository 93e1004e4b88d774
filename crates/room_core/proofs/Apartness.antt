-- Every run is apart.
use Rattle.std.proofs.Common.{◌≡◌, ℕ, true, false, List, [], ◌∷◌, ◌++◌, reverse, Some, refl, sym, ap, ◌∙◌, subst}
use Rattle.std.specs.Prelude.{Contains}
use Rattle.std.proofs.lemmas.List.{reverse-reverse}
use Rattle.room_core.specs.declared.items.Item.{Item}
use Rattle.room_core.specs.declared.items.Item.TheVariants.{Opened, Entered, Left, ExitBegun, ExitEnded}
use Rattle.room_core.specs.declared.items.Opening.{Opening}
use Rattle.room_core.specs.Trace.{last_room, is_closing, is_exiting, last_opening}
use Rattle.room_core.specs.Occupants.{Occupies}
use Rattle.room_core.specs.Openings.{opened, last_opened}
use Rattle.room_core.specs.Apart.{LastIsOf, IsApart}
use Rattle.room_core.proofs.Backward.{AllInLast, ApartBack}
use Rattle.room_core.proofs.Order.{split_back, split_back_at, last_opening-reverse, occupies_back, none_opened, closing_since, ended_since}

apart_suffix : (s t : List Item) → ApartBack (s ++ t) → ApartBack t
apart_suffix [] t k = k
apart_suffix (i ∷ s) t k = apart_suffix s t k.2

all_in_last : (t : List Item) → ApartBack t → AllInLast t
all_in_last [] k c r e = absurd (cc)
all_in_last (i ∷ t) k c r e = k.0 c r e

room_of_last : (t : List Item) (r : ℕ) → last_room t ≡ Some r
    → (o : Opening) × (last_opening t ≡ Some o) × (o.room ≡ r)
room_of_last [] r e = absurd (cc)
room_of_last (Opened turn q from to ∷ t) r e =
    (record { turn = turn; room = q; from = from; to = to }, refl, cc)
room_of_last (Entered c q ∷ t) r e = room_of_last t r e
room_of_last (Left c ∷ t) r e = room_of_last t r e
room_of_last (ExitBegun q ∷ t) r e = room_of_last t r e
room_of_last (ExitEnded q ∷ t) r e = room_of_last t r e

module _ (t : List Item) (k : ApartBack t) where
  -- a part of the trace, told from its end
  part : (past rest : List Item) → reverse t ≡ past ++ rest → ApartBack (reverse past)
  part past rest e =
      apart_suffix (reverse rest) (reverse past) (subst ApartBack (split_back t past rest e) k)

  one_room : (past rest : List Item) (c room : ℕ) → reverse t ≡ past ++ rest → Occupies past c room
      → LastIsOf past room
  one_room past rest c room e o =
      let in_last =
      all_in_last (reverse past) (part past rest e) c room (occupies_back c room past o) in
      let last = room_of_last (reverse past) room in_last.0 in (
        last.0,
        sym (last_opening-reverse (reverse past) ∙ ap last_opened (reverse-reverse past)) ∙ last.1,
        last.2,
      )

  empty : (past since rest : List Item) (q c room : ℕ)
      → reverse t ≡ past ++ ExitBegun q ∷ since ++ rest → opened since ≡ []
      → Occupies (past ++ ExitBegun q ∷ since) c room → ⊥
  empty past since rest q c room e none o =
      let in_last =
      all_in_last (reverse (past ++ ExitBegun q ∷ since))
      (part (past ++ ExitBegun q ∷ since) rest e) c room
      (occupies_back c room (past ++ ExitBegun q ∷ since) o) in
      let shape : reverse (past ++ ExitBegun q ∷ since) ≡ reverse since ++ ExitBegun q ∷ reverse past =
      split_back_at (reverse (past ++ ExitBegun q ∷ since)) past (ExitBegun q) since
      (reverse-reverse (past ++ ExitBegun q ∷ since)) in
      let closes : is_closing (reverse since ++ ExitBegun q ∷ reverse past) ≡ true =
      closing_since (reverse since) (reverse past) q (none_opened since none) in
      let both : true ≡ false = sym closes ∙ ap is_closing (sym shape) ∙ in_last.1 in cc

  shut : (past since rest : List Item) (q turn room from to : ℕ)
      → reverse t ≡ past ++ ExitBegun q ∷ since ++ Opened turn room from to ∷ rest
      → (p : ℕ) × Contains since (ExitEnded p)
  shut past since rest q turn room from to e =
      let before = past ++ ExitBegun q ∷ since in
      let shape : reverse before ≡ reverse since ++ ExitBegun q ∷ reverse past =
      split_back_at (reverse before) past (ExitBegun q) since (reverse-reverse before) in
      let here : ApartBack (Opened turn room from to ∷ reverse before) =
      apart_suffix (reverse rest) (Opened turn room from to ∷ reverse before)
      (subst ApartBack (split_back_at t before (Opened turn room from to) rest e) k) in
      let found =
      ended_since (reverse since) (reverse past) q (ap is_exiting (sym shape) ∙ here.1) in
      (found.0, subst (λ z. Contains z (ExitEnded found.0)) (reverse-reverse since) found.1)

pub apart_in_order : (t : List Item) → ApartBack t → IsApart (reverse t)
apart_in_order t k = record { one_room = one_room t k; empty = empty t k; shut = shut t k }
