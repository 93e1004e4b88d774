use Rattle.std.proofs.Common.{subst, map}
use Rattle.image_slide.specs.Sliding.{Accounts}
use Rattle.image_slide.proofs.Account.{accounts_so}
use Rattle.image_slide.proofs.sliders.Slider.into_parts.Goals as goal

pub returns-clause-accounts : goal.returns-clause-accounts
returns-clause-accounts c =
    let s = c.self.inside in
    subst Accounts c.self.view_is
    (accounts_so s.image.now s.marks.now s.ranks.now s.whole (map (λ part. part.piece) s.parts.items) s.at s.came.items s.kept.items s.done.items _ c.self.invariant.account)
