use Prim.Native.Nat.{ℕ}
use mathlib.Core.Path.{◌≡◌, refl, ap, ◌∙◌}
use native.Mathlib.Omega.{arith}
use Rattle.octets.specs.Splice.{splice}
use Rattle.rules.specs.Runs.{record_octets}
use Rattle.rules.specs.Status.{record_of}
use Rattle.phases.proofs.Rooms.{sound_room}
use Rattle.pairs.specs.Pairs.{pair_of}
use Rattle.turns.specs.Turns.{listened}
use Rattle.player.specs.Playing.{Ready}
use Rattle.rules.specs.Files.{input_count, inputs_in}
use Rattle.runs.specs.Runs.{fresh_in}
use Rattle.rules.specs.Steps.{clock_move}
use Rattle.timers.specs.Ticks.{clocked}
use Rattle.runs.proofs.Ends.{record_alone, fit_ready, ended, filled_is_accepted}
use Rattle.runs.proofs.play.play.Goals as goal
use Rattle.runs.proofs.play.play.Goals.{After-put_record}

-- the start record stands at the head of the buffer
begun : (c : After-put_record) → let a = c.args in c.put_record.new.buf ≡ splice a.records.now 0 (record_octets (record_of 0 (fresh_in a.file.octets.now)))
begun c =
    c.put_record.ensures
    ∙ rw (c.record_of.ensures, c.from.ensures, c.fresh_in-start.ensures) (rw (record_alone 0 (fresh_in _)) refl)

-- the fresh pair is sound, and the items are in order from there on
ready : (c : After-put_record) → let a = c.args in Ready (inputs_in a.file.octets.now) (input_count a.file.octets.now) (pair_of c.fresh_in-start.result (listened c.put_record.new.buf 1 a.first 0))
ready c = rw c.fresh_in-start.ensures (fit_ready _ _ _ _ (begun c) c.requires.0)

pub play_items-played-requires : goal.play_items-played-requires
play_items-played-requires c =
    let n = c.input_count-n.ensures in
    let room = c.requires in
    (rw (c.inputs.ensures, n) (ready (goal.at.play_items-played-requires c).After-put_record), omega arith, omega (arith, n, c.put_record.auto.buf, room.1), rw n room.2)

pub move_clock-last-requires : goal.move_clock-last-requires
move_clock-last-requires c = sound_room _ _ c.play_items-played.ensures.safe (omega (arith, c.end_time-end.ensures, c.requires.0.start.header.layout.end))

pub returns : goal.returns
returns c =
    let items = c.play_items-played in
    let n = c.input_count-n.ensures in
    rw c.listen.ensures
    (filled_is_accepted _ _ _ _ _ _ _ _ (ended _ _ _ _ (begun (goal.at.returns c).After-put_record) c.requires.0 _ _ _ _ _ _ _ _ items.ensures.behind (omega (arith, n, items.ensures.few, items.auto.records, c.put_record.auto.buf, c.requires.1)) (rw (c.fresh_in-start.ensures, c.inputs.ensures, n) at items.ensures.filled) _ (c.move_clock-last.ensures ∙ ap (λ (t : ℕ). clocked (clock_move c.play_items-played.result.state t)) c.end_time-end.ensures) c.put_notes.ensures))
