use Rattle.std.proofs.Common.{ℕ, length, subst}
use Rattle.af_rendering.proofs.Common.{IsNewRoom}
use Rattle.af_rendering.proofs.staging.Stage.make.Goals as goal

pub returns : goal.returns
returns c =
    let tracks = c.tracks-tracks.ensures.value in
    record {
      script_is = c.frames.ensures.script;
      new = c.in_ok-shared.ensures.new;
      together = c.in_ok-shared.ensures.together;
      room = subst (λ (x : ℕ × ℕ). IsNewRoom x.0 x.1 c.in_ok-room.room) (λ k. (c.frames.ensures.value k, length (tracks k))) c.in_ok-room.ensures;
    }
