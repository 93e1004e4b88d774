use Rattle.std.proofs.Common.{◌∙◌, ℕ, get_or, refl, ap, sym}
use Rattle.room_gate.specs.Shows.{KeyHolder}
use Rattle.room_gate.proofs.Counting.{may_restore}
use Rattle.room_gate.proofs.tests.steps.RestoresExitCodeCounters.run.Goals as goal

pub key_load-found-requires-clause-can : goal.key_load-found-requires-clause-can
key_load-found-requires-clause-can c =
    may_restore c.args.rooms.now.usage c.args.key.now (λ n. n) (λ n e. refl)

pub key_store-requires-clause-can : goal.key_store-requires-clause-can
key_store-requires-clause-can c =
    let now = c.key_load-found.new.key in
    let words = ap (λ (k : KeyHolder (ℕ × ℕ)). get_or k.words 0 0) c.key_load-found.ensures.same in
    may_restore c.args.rooms.now.usage now (λ n. c.key_load-found.result)
    (λ n e. c.key_load-found.ensures.shown refl ∙ sym words ∙ sym e)
