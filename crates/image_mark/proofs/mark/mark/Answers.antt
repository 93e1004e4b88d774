use Rattle.std.proofs.Common.{◌≡◌, ◌∙◌, Bool, true, false, not, sym}
use Rattle.image_mark.proofs.Waiting.{MarksNamed-new}
use Rattle.image_mark.proofs.mark.mark.Goals as goal

-- new where it was not there before
clear_from_not : (b : Bool) → not b ≡ true → b ≡ false
clear_from_not true is = cc
clear_from_not false is = cc

pub returns-in_ok-push : goal.returns-in_ok-push
returns-in_ok-push c =
    let fresh = clear_from_not _ (sym c.insert.ensures.fresh ∙ c.if-insert.true) in
    rw (c.in_ok-push.ensures.items, c.insert.ensures.set) (MarksNamed-new _ _ _ c.requires.within fresh)
