use Rattle.room_core.specs.Order.{trace_of}
use Rattle.room_core.specs.Apart.{IsApart}
use Rattle.room_core.specs.ExitOnce.{IsOncePerOpening}
use Rattle.room_core.specs.Admission.{IsAdmission}
use Rattle.room_core.specs.Choice.{IsCyclic}
use Rattle.room_core.specs.Bypass.{IsPrompt}
use Rattle.room_core.proofs.Theorems.{is_apart, exits_once, admits, is_prompt}
use Rattle.room_core.proofs.Chosen.{run_cyclic}
use Rattle.room_rule.proofs.States.{in_every_state, insiders_occupy, one_room, none_by_the_key, is_bounded_always, insiders_have_looked}
use Rattle.room_rule.proofs.Quietly.{steps_are_quiet}
use Rattle.room_rule.proofs.Writers.{holders_step_on_words, outsiders_change_touch_words}
use Rattle.room_rule.proofs.Following.{steps_are_acts, draws_are_acts, leaves_are_acts}
use Rattle.room_rule.proofs.Following.{insiders_keep_it, holders_keep_it, touches_keep_it}
use Rattle.room_rule.proofs.theorems.the_table_follows_the_protocol.Goals as goal

pub returns-clause-steps : goal.returns-clause-steps
returns-clause-steps g c = steps_are_acts g.U.RoomUse.meaning g.U.RoomUse.ROOMS g.met.U.RoomUse.laws

pub returns-clause-draws : goal.returns-clause-draws
returns-clause-draws g c = draws_are_acts g.U.RoomUse.meaning g.U.RoomUse.ROOMS g.met.U.RoomUse.laws

pub returns-clause-leaves : goal.returns-clause-leaves
returns-clause-leaves g c =
    leaves_are_acts g.U.RoomUse.meaning g.U.RoomUse.ROOMS g.met.U.RoomUse.laws

pub returns-clause-insiders : goal.returns-clause-insiders
returns-clause-insiders g c =
    insiders_keep_it g.U.RoomUse.meaning g.U.RoomUse.ROOMS g.met.U.RoomUse.laws

pub returns-clause-holders : goal.returns-clause-holders
returns-clause-holders g c =
    holders_keep_it g.U.RoomUse.meaning g.U.RoomUse.ROOMS g.met.U.RoomUse.laws

pub returns-clause-touches : goal.returns-clause-touches
returns-clause-touches g c =
    touches_keep_it g.U.RoomUse.meaning g.U.RoomUse.ROOMS g.met.U.RoomUse.laws

pub returns-clause-apart : goal.returns-clause-apart
returns-clause-apart g c =
    in_every_state g.U.RoomUse.meaning g.U.RoomUse.ROOMS (λ _ moments. IsApart (trace_of moments))
    is_apart

pub returns-clause-exit_once : goal.returns-clause-exit_once
returns-clause-exit_once g c =
    in_every_state g.U.RoomUse.meaning g.U.RoomUse.ROOMS
    (λ _ moments. IsOncePerOpening (trace_of moments)) exits_once

pub returns-clause-admission : goal.returns-clause-admission
returns-clause-admission g c =
    in_every_state g.U.RoomUse.meaning g.U.RoomUse.ROOMS (λ _ moments. IsAdmission moments) admits

pub returns-clause-cyclic : goal.returns-clause-cyclic
returns-clause-cyclic g c =
    in_every_state g.U.RoomUse.meaning g.U.RoomUse.ROOMS IsCyclic run_cyclic

pub returns-clause-prompt : goal.returns-clause-prompt
returns-clause-prompt g c =
    in_every_state g.U.RoomUse.meaning g.U.RoomUse.ROOMS IsPrompt is_prompt

pub returns-clause-occupants : goal.returns-clause-occupants
returns-clause-occupants g c = insiders_occupy g.U.RoomUse.meaning g.U.RoomUse.ROOMS

pub returns-clause-one_room : goal.returns-clause-one_room
returns-clause-one_room g c = one_room g.U.RoomUse.meaning g.U.RoomUse.ROOMS

pub returns-clause-none_by_the_key : goal.returns-clause-none_by_the_key
returns-clause-none_by_the_key g c = none_by_the_key g.U.RoomUse.meaning g.U.RoomUse.ROOMS

pub returns-clause-writers : goal.returns-clause-writers
returns-clause-writers g c =
    holders_step_on_words g.U.RoomUse.meaning g.U.RoomUse.ROOMS g.met.U.RoomUse.laws

pub returns-clause-touch_words : goal.returns-clause-touch_words
returns-clause-touch_words g c =
    outsiders_change_touch_words g.U.RoomUse.meaning g.U.RoomUse.ROOMS g.met.U.RoomUse.laws

pub returns-clause-quiet : goal.returns-clause-quiet
returns-clause-quiet g c = steps_are_quiet g.U.RoomUse.meaning g.U.RoomUse.ROOMS g.met.U.RoomUse.laws

pub returns-clause-looked : goal.returns-clause-looked
returns-clause-looked g c = insiders_have_looked g.U.RoomUse.meaning g.U.RoomUse.ROOMS

pub returns-clause-bounded : goal.returns-clause-bounded
returns-clause-bounded g c = is_bounded_always g.U.RoomUse.meaning g.U.RoomUse.ROOMS
