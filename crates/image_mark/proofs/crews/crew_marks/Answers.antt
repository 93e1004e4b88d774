use Rattle.std.proofs.Common.{ℕ, subst}
use Rattle.image_mark.specs.Crews.{AreMarkers}
use Rattle.image_mark.proofs.Together.{new_markers, claimed_all}
use Rattle.image_mark.proofs.crews.crew_marks.Goals as goal

pub run_crew-requires-clause-new : goal.run_crew-requires-clause-new
run_crew-requires-clause-new g c κs within = new_markers c.args.image.now c.args.claims.now _ c.in_ok-works.works.items c.in_ok-works.ensures

pub returns : goal.returns
returns g c =
    let heap = c.args.image.now in let claims = c.args.claims.now in
    let are : AreMarkers heap claims c.args.crew.now.workers c.in_ok-works.works.items =
    subst (λ (n : ℕ). AreMarkers heap claims n c.in_ok-works.works.items) c.requires.many c.in_ok-works.ensures in
    let e = c.in_ok-works-2.ensures in let s = c.in_ok-seats_of.ensures in
    let end = c.in_ok-works-2.field-0 in
    rw s.seats (claimed_all heap claims c.args.crew.now.workers c.requires.crew.workers.0 c.in_ok-works.works.items are
    end.works.items end.drives.items end.left.items e.settled e.led e.made e.counted s.holds)
