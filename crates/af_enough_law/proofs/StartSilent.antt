-- A track whose START was settled and that is to be heard after a round was to be heard before it.
use Rattle.std.proofs.Common.{◌≡◌, inl, inr, ℕ, ◌≤◌, ◌<◌, Bool, true, false, true≢false, All, length, refl, sym, ◌∙◌, arith}
use Rattle.af_enough_law.proofs.Common.{LegalRound, Marks, RoundSeen, Run, Session, Setting, after_round, plays, setup_of, track_at, track_count}
use Rattle.af_enough_law.proofs.Carried.{SessionCarried}
use Rattle.af_enough_law.proofs.NormalRounds.{TurnMade}
use Rattle.af_enough_law.proofs.Carrying.{TrackIs, slotless, lent, stopped, gone_over}
use Rattle.af_enough_law.proofs.Ends.{silent}
use Rattle.af_enough_law.proofs.Lookahead.{ended_then}
use Rattle.af_enough_law.proofs.PipeKept.{IsSized}
use Rattle.af_enough_law.proofs.SessionRounds.{turn_of}
use Rattle.af_enough_law.proofs.StartSends.{HasStarted}
use Rattle.af_enough_law.proofs.StartTracks.{silent_three}
use Rattle.af_enough_law.proofs.StoppedPlaces.{out_round, stopped_out}
use Rattle.af_enough_law.proofs.StoppedRounds.{place_gone}
use Rattle.af_enough_law.proofs.StoppedTracks.{stopped_gone}
use Rattle.af_enough_law.proofs.TrackGives.{home_parts}

module _ (s : Session) (marks : Marks) (scales : All (λ (x : Setting). x.scale ≤ 4096) (setup_of s).settings) (long : length (setup_of s).settings ≡ track_count s) (small : s.script.normal ≤ 16) (sizes : IsSized s) (run : Run) (round : RoundSeen) (legal : LegalRound false s marks run round) (c : SessionCarried s run)
    (next : RoundSeen) (legal_next : LegalRound false s marks (after_round s run round) next) (i most total : ℕ) (named : i < track_count s) (lawful : marks.commands i ≡ true) (two : 2 ≤ (track_at run.normal.tracks i).life.retries) where
  abbrev t : TurnMade s marks run round
  t = turn_of s marks scales long run round legal c.stands

  abbrev after : Run
  after = after_round s run round

  -- a track that isn't to be heard before the round isn't after it
  stays_silent : TrackIs s run i most total → HasStarted run i → plays (track_at run.normal.tracks i).life ≡ false → plays (track_at after.normal.tracks i).life ≡ false
  stays_silent is (inl e) out = silent (track_at after.normal.tracks i).life (ended_then s marks scales long run round legal c i named e)
  stays_silent (slotless track never none) (inr settled) out =
      let p = home_parts s marks scales long small sizes run round legal c next legal_next i most total named lawful two track never none in
      let same = track.on.follows.settled in
      out_round s marks run round i t track.on (silent_three track.on.count track.on.told (track_at run.normal.tracks i).life track.on.follows.course out (omega (arith, same, settled))) out p.turn p.gone.gone
  stays_silent (lent slot item track l) (inr settled) out = absurd (true≢false (sym l.heard ∙ out))
  stays_silent (stopped slot item low item_is slot_is z place) (inr settled) out =
      let turn = (place_gone s marks scales long run round legal c i most total named lawful z two slot item low item_is slot_is next legal_next place).turn in
      stopped_out s marks run round i most total t z turn (stopped_gone s marks scales long run round legal c i most total named lawful z two turn)
  stays_silent (gone_over h) (inr settled) out = silent (track_at after.normal.tracks i).life (ended_then s marks scales long run round legal c i named h.life)

  pub heard_before : TrackIs s run i most total → HasStarted run i → plays (track_at after.normal.tracks i).life ≡ true → plays (track_at run.normal.tracks i).life ≡ true
  heard_before is started heard = by (plays (track_at run.normal.tracks i).life) refl
    where
      by : (b : Bool) → plays (track_at run.normal.tracks i).life ≡ b → plays (track_at run.normal.tracks i).life ≡ true
      by true e = e
      by false out = absurd (true≢false (sym heard ∙ stays_silent is started out))
