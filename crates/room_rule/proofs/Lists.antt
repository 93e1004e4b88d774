-- Lists by their places, and their beginnings.
use Rattle.std.proofs.Common.{◌≡◌, ℕ, zero, suc, ◌⊎◌, ⊎_elim, inl, inr, Bool, true, false, cond, List, [], ◌∷◌, ◌++◌, length, map, set, sym, refl, ap, ◌∙◌, append_assoc}
use mathlib.Core.Option.{some-injective, some-ne-none}
use lib.ListN.{get_elem?}
use Rattle.atomic_table.proofs.Lists.{at_longer}
use Rattle.room_core.specs.declared.items.Opening.{Opening}
use Rattle.room_rule.specs.Use.{IsAt}
use Rattle.room_rule.specs.Openings.{StartsWith, IsAmong}

-- what stands there can be changed
pub there_set : {A : Type 0} (l : List A) (i : ℕ) (a b : A) → IsAt l i a → IsAt (set l i b) i b
there_set [] i a b e = absurd (some-ne-none a (sym e))
there_set (x ∷ xs) zero a b e = refl
there_set (x ∷ xs) (suc i) a b e = there_set xs i a b e

-- a place of a longer list is an old one, or the new one
pub at_end : {A : Type 0} (l : List A) (a b : A) (j : ℕ) → IsAt (l ++ a ∷ []) j b
    → IsAt l j b ⊎ ((j ≡ length l) × (a ≡ b))
at_end [] a b zero e = inr (refl, some-injective a b e)
at_end [] a b (suc j) e = absurd (some-ne-none b (sym e))
at_end (x ∷ xs) a b zero e = inl e
at_end (x ∷ xs) a b (suc j) e = ⊎_elim (λ t. inl t) (λ t. inr (ap suc t.0, t.1)) (at_end xs a b j e)

-- a list of one member
pub only_one : {D : Type 0} (v w : D) (j : ℕ) → IsAt (v ∷ []) j w → (j ≡ 0) × (v ≡ w)
only_one v w zero e = (refl, some-injective v w e)
only_one v w (suc j) e = absurd (some-ne-none w (sym e))

-- nothing stands in an empty list
pub none_there : {A : Type 0} (i : ℕ) (a : A) → IsAt [] i a → ⊥
none_there i a e = some-ne-none a (sym e)

pub starts_trans : {A : Type 0} (a b c : List A) → StartsWith a b → StartsWith b c → StartsWith a c
starts_trans a b c x y =
    (y.0 ++ x.0, x.1 ∙ ap (λ (l : List _). l ++ x.0) y.1 ∙ append_assoc c y.0 x.0)

-- of two beginnings, whichever is chosen
pub starts_either : (whole a b : List Opening) (c : Bool) → StartsWith whole a → StartsWith whole b
    → StartsWith whole (cond c b a)
starts_either whole a b true p q = q
starts_either whole a b false p q = p

pub among_more : {A : Type 0} (whole more part : List A) → StartsWith more whole
    → IsAmong whole part → IsAmong more part
among_more whole more part s h i a at = let j = h i a at in
    (j.0, ap (λ (l : List _). get_elem? l j.0) s.1 ∙ at_longer whole s.0 j.0 a j.1)

pub among_first : {A : Type 0} (whole part : List A) → StartsWith whole part → IsAmong whole part
among_first whole part s i a e =
    (i, ap (λ (z : List _). get_elem? z i) s.1 ∙ at_longer part s.0 i a e)

in_either : {A : Type 0} (l n : List A) (i : ℕ) (a : A) → IsAt (l ++ n) i a
    → IsAt l i a ⊎ ((j : ℕ) × IsAt n j a)
in_either [] n i a e = inr (i, e)
in_either (x ∷ l) n zero a e = inl e
in_either (x ∷ l) n (suc i) a e = in_either l n i a e

pub among_both : {A : Type 0} (whole l n : List A) → IsAmong whole l → IsAmong whole n
    → IsAmong whole (l ++ n)
among_both whole l n x y i a e =
    ⊎_elim (λ f. x i a f) (λ (t : (j : ℕ) × IsAt n j a). y t.0 a t.1) (in_either l n i a e)

-- what stands in a list of results is the result of what stands there
pub of_map : {A B : Type 0} (f : A → B) (l : List A) (i : ℕ) (b : B) → IsAt (map f l) i b
    → (a : A) × IsAt l i a × (f a ≡ b)
of_map f [] i b e = absurd (some-ne-none b (sym e))
of_map f (x ∷ xs) zero b e = (x, refl, some-injective (f x) b e)
of_map f (x ∷ xs) (suc i) b e = of_map f xs i b e
