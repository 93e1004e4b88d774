use Rattle.std.proofs.Common.{◌≡◌, List, [], ◌∷◌, ◌++◌, map, refl, sym, subst, arith}
use Rattle.std.specs.List.{Contains, All}
use Rattle.std.proofs.lemmas.List.{length-map, map-set, nil_from_length}
use Rattle.std.proofs.lemmas.List.Elements.{All-same, All-take, All-contains, Contains-push}
use Rattle.image_slide.specs.declared.pieces.Part.{Part}
use Rattle.image_slide.proofs.Placed.{all_fitting, none_placed, part_below, one_fitting, one_placed, all_placed}
use Rattle.image_slide.proofs.joins.in_places.Goals as goal

-- the last of the pieces has its words
last_slid : (P : Part → Type 0) (all rest : List Part) (part : Part) → all ≡ rest ++ part ∷ [] → All P all → P part
last_slid P all rest part is each =
    All-contains P all part each (subst (λ (l : List Part). Contains l part) (sym is) (Contains-push rest part))

pub loop-part-init : goal.loop-part-init
loop-part-init c =
    let places = c.in_ok-places.places in
    record {
      fitting = all_fitting c.args.pieces c.args.parts.items (map (λ place. place.items) places.items) c.requires
          (omega (arith, length-map places.items (λ place. place.items), c.in_ok-places.ensures, places.ok.0));
      placed = λ words_of have. (have, none_placed c.args.pieces c.args.parts.items (map (λ place. place.items) places.items) c.requires words_of);
    }

pub index_mut-requires : goal.index_mut-requires
index_mut-requires c =
    let inv = c.loop-part.invariant in let places = c.loop-part.places in let part = c.in-Some.part in
    let low = part_below c.args.pieces c.loop-part.rest.items c.pop.new.self.items part
    (map (λ place. place.items) places.items) _ c.in-Some.ensures.items inv.fitting refl in
    omega (arith, low, inv.fitting.long, length-map places.items (λ place. place.items), places.ok.0)

pub loop-part-preserved : goal.loop-part-preserved
loop-part-preserved c =
    let inv = c.loop-part.invariant in let places = c.loop-part.places in let part = c.in-Some.part in
    let set_is = map-set (λ place. place.items) places.items part.piece part.words in
    let before = map (λ place. place.items) places.items in
    record {
      fitting = one_fitting c.args.pieces c.loop-part.rest.items c.pop.new.self.items part before _ c.in-Some.ensures.items inv.fitting set_is;
      placed = λ words_of have.
          let P : Part → Type 0 = λ (p : Part). p.words.items ≡ words_of p.piece in let old = inv.placed words_of have in (
            All-same P c.pop.new.self.items _ c.pop.ensures.rest (All-take P _ c.loop-part.rest.items old.0),
            one_placed c.args.pieces c.loop-part.rest.items c.pop.new.self.items part before _ c.in-Some.ensures.items inv.fitting set_is
                words_of old.1 (last_slid P _ _ part c.in-Some.ensures.items old.0),
          );
    }

pub returns : goal.returns
returns c words_of have =
    all_placed words_of c.args.pieces c.loop-part.rest.items (map (λ place. place.items) c.loop-part.places.items)
    (nil_from_length _ (omega (arith, c.in_default.ensures.cases, c.loop-part.rest.ok.0))) c.loop-part.invariant.fitting.long
    (c.loop-part.invariant.placed words_of have).1
