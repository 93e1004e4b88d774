use Rattle.room_script.proofs.Spelled.{two_split, two_read, no_two}
use Rattle.room_script.proofs.numbers.two_numbers.Goals as goal

pub returns-in_err-space : goal.returns-in_err-space
returns-in_err-space c = λ a b. rw c.from_residual.ensures (λ e. cc, λ is. absurd (no_two c.args.bytes.now a b c.in_err-space.ensures is))

pub returns-in_err-first : goal.returns-in_err-first
returns-in_err-first c = λ a b.
    let split = two_split c.args.bytes.now c.in_ok-space.space a b c.in_ok-space.ensures in
    rw c.from_residual-in_err-first.ensures (λ e. cc, λ is. absurd (let e = (c.in_err-first.ensures a).1 (split.0 is).0 in cc))

pub returns-in_err-second : goal.returns-in_err-second
returns-in_err-second c = λ a b.
    let split = two_split c.args.bytes.now c.in_ok-space.space a b c.in_ok-space.ensures in
    rw c.from_residual-in_err-second.ensures (λ e. cc, λ is. absurd (let e = (c.in_err-second.ensures b).1 (split.0 is).1 in cc))

pub returns : goal.returns
returns c = λ a b.
    let split = two_split c.args.bytes.now c.in_ok-space.space a b c.in_ok-space.ensures in
    two_read c.args.bytes.now _ _ c.in_ok-first.first c.in_ok-second.second a b split (c.in_ok-first.ensures a) (c.in_ok-second.ensures b)
