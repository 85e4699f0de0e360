use Rattle.std.specs.Prelude.{Some}
use Prim.Native.Nat.{ℕ, ◌*◌, ◌≤◌}
use mathlib.Core.List.{List}
use lib.ListN.{length}
use mathlib.Core.Path.{◌≡◌, refl, sym, ◌∙◌}
use native.Mathlib.Omega.{arith}
use Rattle.octets.specs.Groups.{stamp_at, kind_at, value_at}
use Rattle.rules.specs.declared.input.Input.{Input}
use Rattle.rules.specs.Inputs.{decoded}
use Rattle.rules.specs.Barriers.{barrier}
use Rattle.rules.specs.Steps.{clock_move}
use Rattle.rules.specs.Layout.{input_place}
use Rattle.rules.proofs.Laws.Inputs.{kind_range, meant_kind}
use Rattle.rules.proofs.Laws.Soundness.{move_clock}
use Rattle.rules.proofs.Laws.Records.{a_move_writes_at_most_two}
use Rattle.phases.proofs.Rooms.{sound_room, moved_roomy}
use Rattle.rules.specs.declared.state.State.{State}
use Rattle.sensor.specs.declared.state.Sensor.{Sensor}
use Rattle.lamps.specs.declared.lamp.Lamp.{Lamp}
use Rattle.lamps.specs.Lamps.{lamp_of, state_of}
use Rattle.records.proofs.Written.{listed_few}
use Rattle.pairs.specs.declared.item.Item.{Item}
use Rattle.pairs.specs.Items.{item_at}
use Rattle.pairs.specs.Pairs.{pair_of}
use Rattle.pairs.proofs.Soundness.{sound_pair_exactly_when}
use Rattle.turns.specs.declared.turn.Turn.{Turn}
use Rattle.turns.specs.Turns.{listened, turn_of, Turned}
use Rattle.turns.proofs.Turning.{turned}
use Rattle.player.specs.Playing.{Ready, Advanced}
use Rattle.player.proofs.Turns.{going_first, next_item, going_rests, going_asks, going_acts, going_dropped, going_last}
use Rattle.player.proofs.items.play_items.Goals as goal
use Rattle.player.proofs.items.play_items.Goals.{After-from-l, After-turn_at-turn, in-None, in-Some+in-Err, in-Some+in-Ok}

-- the pair that the items are played from is ready for them
is_ready : (inputs : List ℕ) (n : ℕ) (start : State) (z : Sensor) (l : Lamp) → l ≡ lamp_of start → Ready inputs n (pair_of start z) → Ready inputs n (pair_of (state_of start.params start.scenes l) z)
is_ready inputs n start z l e ready = rw e ready

ready_to : (c : After-from-l) → let a = c.args in Ready a.inputs.now a.n (pair_of (state_of a.start.params a.start.scenes c.from-l.result) (listened a.records.now a.before a.first 0))
ready_to c = is_ready _ _ _ _ _ c.from-l.ensures c.requires.0

-- the item's turn, where one stands
takes : (inputs records : List ℕ) (i at t count heard : ℕ) (z : Sensor) (turn : Turn) → at ≡ input_place i → t ≡ stamp_at inputs at → heard ≤ count →
    ((j : Item) → item_at inputs at ≡ Some j → turn ≡ turn_of j (kind_at inputs at) (value_at inputs at) t records count z heard) →
    (j : Item) → item_at inputs (input_place i) ≡ Some j → Turned j (stamp_at inputs (input_place i)) records count z heard turn
takes inputs records i at t count heard z turn place stamped behind turns j e = rw (turns j (rw place e), stamped, place) (turned _ _ _ _ _ _ _ behind j e)

-- what is known of every turn, and what each of its three outcomes comes to
module _ (c : After-turn_at-turn) where
  ready : let a = c.args in Ready a.inputs.now a.n (pair_of (state_of a.start.params a.start.scenes c.from-l.result) (listened a.records.now a.before a.first 0))
  ready = is_ready _ _ _ _ _ c.from-l.ensures c.requires.0

  took : let loop = c.loop-i in let inputs = c.args.inputs.now in let m = c.advance-m in
      (j : Item) → item_at inputs (input_place loop.i) ≡ Some j → Turned j (stamp_at inputs (input_place loop.i)) m.new.records m.result.count loop.z loop.heard c.turn_at-turn.result
  took = takes c.args.inputs.now _ c.loop-i.i _ _ _ c.loop-i.heard c.loop-i.z _ (c.new-group.ensures.1 ∙ c.input_place-at.ensures) (rw c.new-group.ensures.0 at c.stamp-t.ensures) (omega (arith, c.loop-i.invariant.1, (c.advance-m.ensures c.loop-i.k).count)) (rw c.new-group.ensures.0 at c.turn_at-turn.ensures)

  -- the sensor has heard no more than there is
  behind_still : c.turn_at-turn.result.heard ≤ c.advance-m.result.count
  behind_still =
      let f = next_item _ _ _ _ _ _ ready _ _ _ _ _ c.loop-i.invariant.0 c.loop-i-test.true in
      (took f.input f.meant).behind

  -- the clock has moved to the item's stamp
  moves : Advanced c.args.start.params c.loop-i.l (stamp_at c.args.inputs.now (input_place c.loop-i.i)) c.loop-i.count c.loop-i.records c.advance-m.result c.advance-m.new.records
  moves = rw (rw (c.new-group.ensures.1 ∙ c.input_place-at.ensures) at (rw c.new-group.ensures.0 at c.stamp-t.ensures)) at c.advance-m.ensures

  -- the records have room, before the clock moves and after
  two : length (clock_move (state_of c.args.start.params c.loop-i.k c.loop-i.l) c.stamp-t.result).records ≤ 2
  two = a_move_writes_at_most_two (state_of c.args.start.params c.loop-i.k c.loop-i.l) c.stamp-t.result

  roomy : 8 * c.loop-i.count ≤ length c.loop-i.records
  roomy = let g = c.loop-i.invariant.0.stands in omega (arith, c.loop-i-test.true, g.few, g.room, c.requires.2)

  roomy_still : 8 * c.advance-m.result.count ≤ length c.advance-m.new.records
  roomy_still = let g = c.loop-i.invariant.0.stands in omega (arith, c.loop-i-test.true, two, (c.advance-m.ensures c.loop-i.k).count, c.advance-m.auto.records, g.few, g.room, c.requires.2)

  -- an item that asks for something asks for an input
  asked : (kind value : ℕ) → c.turn_at-turn.result.asked ≡ Some (record { kind = kind; value = value }) → (x : Input) × (decoded kind value ≡ Some x)
  asked kind value orders =
      let loop = c.loop-i in
      going_asks _ _ _ _ _ _ ready c.args.start.params loop.k loop.l loop.z loop.heard _ _ _ _ loop.invariant.0 loop.invariant.1 c.loop-i-test.true (omega (arith, c.requires.2)) c.requires.3 roomy _ _ moves c.advance-m.auto.records roomy_still _ took kind value orders

pub loop-i-init : goal.loop-i-init
loop-i-init c = (going_first _ _ _ _ _ _ (ready_to (goal.at.loop-i-init c).After-from-l), omega arith)

pub new-group-requires : goal.new-group-requires
new-group-requires c = omega (arith, c.input_place-at.ensures, c.loop-i-test.true, (ready_to (goal.at.new-group-requires c).After-from-l).whole)

pub advance-m-requires : goal.advance-m-requires
advance-m-requires c =
    let ready = ready_to (goal.at.advance-m-requires c).After-from-l in
    let loop = c.loop-i in
    let g = loop.invariant.0 in
    let within = c.loop-i-test.true in
    let f = next_item _ _ _ _ _ _ ready _ _ _ _ _ g within in
    (rw ((rw c.new-group.ensures.0 at c.stamp-t.ensures), (c.new-group.ensures.1 ∙ c.input_place-at.ensures)) (sound_room (state_of c.args.start.params loop.k loop.l) _ ((sound_pair_exactly_when _).0 g.safe).actuator f.timely), omega (arith, within, g.stands.few, ready.few), omega (arith, within, g.stands.few, g.stands.room, c.requires.2))

pub invariant_of-listener : goal.invariant_of-listener
invariant_of-listener c =
    let loop = c.loop-i in
    let g = loop.invariant.0 in
    let within = c.loop-i-test.true in
    let moves = c.advance-m in
    let two = a_move_writes_at_most_two (state_of c.args.start.params loop.k loop.l) c.stamp-t.result in
    record {
      behind = omega (arith, loop.invariant.1, (moves.ensures loop.k).count);
      within = omega (arith, within, two, (moves.ensures loop.k).count, moves.auto.records, g.stands.few, g.stands.room, c.requires.2);
    }

pub overflow_cast-answers : goal.overflow_cast-answers
overflow_cast-answers c = omega (arith, c.loop-i-test.true, (ready_to (goal.at.overflow_cast-answers c).After-from-l).few)

pub bounds-answers-i : goal.bounds-answers-i
bounds-answers-i c = omega (arith, c.loop-i-test.true, c.loop-i.invariant.0.stands.places, c.requires.3)

-- what is asked for is an input, of one of the eight kinds
pub fate_of-requires : goal.fate_of-requires
fate_of-requires c = let x = asked (goal.at.fate_of-requires c).After-turn_at-turn _ _ c.in-Some.is in rw (← meant_kind _ _ x.0 x.1) (kind_range x.0)

pub overflow_cast-answers-in-Err : goal.overflow_cast-answers-in-Err
overflow_cast-answers-in-Err c = omega (arith, c.loop-i-test.true, (ready_to (goal.at.overflow_cast-answers-in-Err c).After-from-l).few)

pub bounds-answers-i-in-Err : goal.bounds-answers-i-in-Err
bounds-answers-i-in-Err c = omega (arith, c.loop-i-test.true, c.loop-i.invariant.0.stands.places, c.requires.3)

pub known_input-x-requires : goal.known_input-x-requires
known_input-x-requires c = rw (asked (goal.at.known_input-x-requires c).After-turn_at-turn _ _ c.in-Some.is).1 refl

pub take-d-requires : goal.take-d-requires
unfolding barrier
take-d-requires c =
    let ready = ready_to (goal.at.take-d-requires c).After-from-l in
    let a = c.args in
    let loop = c.loop-i in
    let s = state_of a.start.params loop.k loop.l in
    let g = loop.invariant.0 in
    let f = next_item _ _ _ _ _ _ ready _ _ _ _ _ g c.loop-i-test.true in
    let counts = rw (← meant_kind _ _ _ c.known_input-x.ensures) at (sym c.fate_of.ensures ∙ c.in-Ok.is) in
    (rw ((c.advance-m.ensures loop.k).lamp, (rw c.new-group.ensures.0 at c.stamp-t.ensures), (c.new-group.ensures.1 ∙ c.input_place-at.ensures), move_clock s _) (moved_roomy s _ ((sound_pair_exactly_when _).0 g.safe).actuator f.risen f.timely), counts)

pub scenes_after-table-requires : goal.scenes_after-table-requires
unfolding barrier
scenes_after-table-requires c = (c.in-Ok.noted, rw (← meant_kind _ _ _ c.known_input-x.ensures) at (sym c.fate_of.ensures ∙ c.in-Ok.is))

pub put_note-count-requires : goal.put_note-count-requires
put_note-count-requires c =
    let ready = ready_to (goal.at.put_note-count-requires c).After-from-l in
    let loop = c.loop-i in
    let g = loop.invariant.0 in
    let within = c.loop-i-test.true in
    let moves = c.advance-m in
    let two = a_move_writes_at_most_two (state_of c.args.start.params loop.k loop.l) c.stamp-t.result in
    let own = listed_few c.take-d.result.note in
    (omega (arith, within, two, (moves.ensures loop.k).count, g.stands.few, ready.few), omega (arith, within, two, own, (moves.ensures loop.k).count, moves.auto.records, g.stands.few, g.stands.room, c.requires.2))

pub overflow_cast-answers-in-Ok : goal.overflow_cast-answers-in-Ok
overflow_cast-answers-in-Ok c = omega (arith, c.loop-i-test.true, (ready_to (goal.at.overflow_cast-answers-in-Ok c).After-from-l).few)

pub bounds-answers-i-in-Ok : goal.bounds-answers-i-in-Ok
bounds-answers-i-in-Ok c = omega (arith, c.loop-i-test.true, c.loop-i.invariant.0.stands.places, c.requires.3)

-- an item that asks for nothing, one that is dropped, and one that acts
pub loop-i-preserved : goal.loop-i-preserved
unfolding barrier
loop-i-preserved c =
    let t = (goal.at.loop-i-preserved c).After-turn_at-turn in
    let loop = c.loop-i in
    let g = loop.invariant.0 in
    let within = c.loop-i-test.true in
    let long = c.advance-m.auto.records in
    elim c.match-turn.branch [
      | in-None w ↦
          rw (w.records-is, w.answers-is, w.k-is, w.l-is, w.count-is)
          (going_rests _ _ _ _ _ _ (ready t) c.args.start.params loop.k loop.l loop.z loop.heard _ _ _ _ g loop.invariant.1 within (omega (arith, c.requires.2)) c.requires.3 (roomy t) _ _ (moves t) long (roomy_still t) _ (took t) w.in-None.is, behind_still t)
      | in-Some+in-Err w ↦
          let x = asked t _ _ w.in-Some.is in
          let drops = rw (← meant_kind _ _ _ x.1) at (sym w.fate_of.ensures ∙ w.in-Err.is) in
          rw (w.records-is, w.answers-is, w.k-is, w.l-is, w.count-is)
          (going_dropped _ _ _ _ _ _ (ready t) c.args.start.params loop.k loop.l loop.z loop.heard _ _ _ _ g loop.invariant.1 within (omega (arith, c.requires.2)) c.requires.3 (roomy t) _ _ (moves t) long (roomy_still t) _ (took t) _ _ w.in-Some.is x.0 x.1 w.in-Err.answer drops, behind_still t)
      | in-Some+in-Ok w ↦
          let put = w.put_note-count in
          rw (w.records-is, w.answers-is, w.k-is, w.l-is, w.count-is)
          (going_acts _ _ _ _ _ _ (ready t) c.args.start.params loop.k loop.l loop.z loop.heard _ _ _ _ g loop.invariant.1 within (omega (arith, c.requires.2)) c.requires.3 (roomy t) _ _ (moves t) long (roomy_still t) _ (took t) _ _ w.in-Some.is _ w.known_input-x.ensures _ w.take-d.ensures _ put.ensures.0 _ put.ensures.1 (put.auto.buf ∙ long) _ w.scenes_after-table.ensures, omega (arith, behind_still t, put.ensures.0))
    ]

pub shape_of-records : goal.shape_of-records
shape_of-records c = c.loop-i.invariant.0.stands.room

pub shape_of-answers : goal.shape_of-answers
shape_of-answers c = c.loop-i.invariant.0.stands.places

pub returns : goal.returns
returns c =
    let loop = c.loop-i in
    let g = loop.invariant.0 in
    let all = going_last _ _ _ _ _ _ (ready_to (goal.at.returns c).After-from-l) _ _ _ _ _ g c.loop-i-test.false in
    rw c.in_state.ensures (record { filled = rw c.from-l.ensures at all; safe = ((sound_pair_exactly_when _).0 g.safe).actuator; few = omega (arith, g.stands.few, g.upto); behind = loop.invariant.1 })
