-- A client that has done nothing can do its work.
use Rattle.std.proofs.Common.{◌≡◌, ℕ, ◌≤◌, true, false, List, [], ◌∷◌, length, map, drop, sym, ap, subst, arith}
use Rattle.af_session.proofs.Common.{All, All-nil, CanWork, ClientCall, Frame, HasOpNumbers, IsFitting, IsFittingOp, IsNewClient, IsNewParty, IsShape, IsTrack, Op, PartyState, Roomy, Shape, Side, TrackSpec, cells_of, command_shape, first_track, flushes_due, flushes_to_come, frames_due, frames_to_come, most_flushes, new_side, packed_word, side_of_proxy, stream_shape, track_of}
use Rattle.af_cblk.specs.declared.view.ClientPart.{ClientPart}
use Rattle.af_cblk.proofs.Flushes.{most-many}
use Rattle.af_cblk.proofs.Sized.{wrapped_by}
use Rattle.af_runs.specs.Clients.{Client, new_client as new_wants}
use Rattle.af_runs.specs.Kept.{client_of}
use Rattle.af_runs.specs.declared.want.Want.{Want}
use Rattle.af_script.specs.declared.op.Op.TheVariants as op

abbrev side_of_part : ClientPart → Side
side_of_part part = record { shape = part.shape; events = part.events; released = part.frames }

-- a list of ops has no more flushes than ops
flushes_few : (ops : List Op) → flushes_to_come ops ≤ length ops
flushes_few [] = omega arith
flushes_few (op.Flush ∷ ops) = let few = flushes_few ops in omega arith
flushes_few (_ ∷ ops) = let few = flushes_few ops in omega arith

-- the numbers of an op fit the blocks of its track
op_fits : (frames : ℕ) (o : Op) → HasOpNumbers frames o → IsFittingOp (cells_of frames) 128 o
op_fits frames (op.Gain left right) numbers = numbers
op_fits frames (op.Write count) numbers = (numbers.0, omega (arith, numbers.1))
op_fits frames (op.Poke false word value) numbers = numbers.0
op_fits frames (op.Poke true word value) numbers = numbers.0
op_fits frames op.OpenTrack numbers = tt
op_fits frames op.Start numbers = tt
op_fits frames op.Pause numbers = tt
op_fits frames op.Stop numbers = tt
op_fits frames op.Flush numbers = tt
op_fits frames op.Drain numbers = tt
op_fits frames op.Remove numbers = tt
op_fits frames op.Yield numbers = tt

module _ (version : ℕ) (spec : TrackSpec) (p : PartyState) (track : IsTrack spec) (sound : IsShape (stream_shape version spec)) (wants : (ops : List Op) → client_of ops p.client ≡ new_wants ops)
    (stream : IsNewClient (stream_shape version spec) p.stream) (command : IsNewClient command_shape p.command) (calls : p.calls ≡ record { items = []; room = 64 }) where
  none_due : p.client.due ≡ []
  none_due = ap (λ (c : Client). c.due) (wants spec.ops)

  all_left : drop p.client.at spec.ops ≡ spec.ops
  all_left = ap (λ (c : Client). c.ops) (wants spec.ops)

  stream_is : p.stream.pass.part.shape ≡ stream_shape version spec
  stream_is = ap (λ (c : ClientPart). c.shape) stream.part

  command_is : p.command.pass.part.shape ≡ command_shape
  command_is = ap (λ (c : ClientPart). c.shape) command.part

  many : 65535 ≤ most_flushes p.stream.pass.part.shape.wrap
  many = subst (λ (k : Shape). 65535 ≤ most_flushes k.wrap) (sym stream_is) (most-many (stream_shape version spec) (wrapped_by (stream_shape version spec) sound))

  none_fit : (a b : ℕ) → All (IsFitting a b) p.client.due
  none_fit a b = subst (λ (ws : List Want). All (IsFitting a b) ws) (sym none_due) (All-nil (IsFitting a b))

  all_fit : All (IsFittingOp p.stream.pass.part.shape.cells p.command.pass.part.shape.cells) (drop p.client.at spec.ops)
  all_fit =
      subst (λ (x : Shape × Shape × List Op). All (IsFittingOp x.0.cells x.1.cells) x.2) (λ i. (sym stream_is i, sym command_is i, sym all_left i))
      (λ k d lt. op_fits spec.frames _ (track.numbers k d lt))

  pub can_work : (frames : ℕ) → frames_to_come spec.ops ≤ frames → frames ≤ 4194304 → CanWork spec.ops frames p
  can_work frames enough few =
      let due : frames_due p.client.due ≡ 0 = ap frames_due none_due in
      let left : frames_to_come (drop p.client.at spec.ops) ≡ frames_to_come spec.ops = ap frames_to_come all_left in
      let flushes : flushes_due p.client.due ≡ 0 = ap flushes_due none_due in
      let to_come : flushes_to_come (drop p.client.at spec.ops) ≡ flushes_to_come spec.ops = ap flushes_to_come all_left in
      record {
        file = omega (arith, due, left, enough, stream.kept.1);
        few_frames = few;
        flushes = omega (arith, flushes, to_come, flushes_few spec.ops, track.count, stream.kept.0, many);
        due_fits = none_fit p.stream.pass.part.shape.cells p.command.pass.part.shape.cells;
        ops_fit = all_fit;
        commands = (ap (λ (k : Shape). k.frames) command_is, ap (λ (k : Shape). k.base) command_is);
        room = ap (λ (r : Roomy ClientCall). r.room) calls;
      }

  first : (file : List Frame) → track_of spec.ops file p ≡ first_track version spec file
  first file =
      let stream_side : side_of_proxy p.stream ≡ new_side (stream_shape version spec) = ap side_of_part stream.part in
      let command_side : side_of_proxy p.command ≡ new_side command_shape = ap side_of_part command.part in
      λ i. record { file = map packed_word file; client = wants spec.ops i; stream = stream_side i; commands = command_side i }

  pub new_party : (place : ℕ) → p.track ≡ place → IsNewParty version place spec p
  new_party place is = record { place_is = is; wants = wants; stream = stream; command = command; calls = calls; track = first; work = can_work }
