-- What a stage comes to once its rounds were played.
use Rattle.std.proofs.Common.{◌≡◌, ◌*◌, ◌<◌, ◌≤◌, ◌^◌, ℕ, List, [], length, refl, sym, ap, subst, ◌∙◌, arith, ◌++◌, append-nil}
use Rattle.af_rendering.proofs.Common.{All, FitsEntry, Given, HasRanges, IsFrame, IsReady, IsReadyOn, IsTally, Links, Rig, Roomy, RoundsNoted, ScriptData, SessionState, TrackSpec, TurnSpec, given_of, journal_of, take_all, pcm_of}
use Rattle.af_model.proofs.NumbersFit.{ranges_dealt}
use Rattle.af_rendering.specs.declared.staging.Stage.{Stage}
use Rattle.af_rendering.specs.Rendered.{Runs}
use Rattle.af_rendering.specs.SoFar.{AreNoted, HasPlayedTo, SoFar, noted_of}
use Rattle.af_rendering.specs.Stages.{HasRendered, HasRoomToWait, IsNewStage, IsNoted, shown_on}
use Rattle.af_rendering.proofs.FirstRound.{frames_first, rendered}
use Rattle.af_rendering.proofs.JournalSound.{journal_form, journal_whole}
use Rattle.af_rendering.proofs.ShownWhole.{released_few, tally_end}

-- the room of a new stage has room for bytes that wait, and none wait
pub new_room : (script : ScriptData) (s : Stage) → IsNewStage script s → HasRoomToWait s.parties s.room × (s.room.bytes.items ≡ [])
new_room script s new =
    let same = frames_first script s.shared s.parties new.new [] in
    let wide : s.room.bytes.room ≡ 256 * script.frames = ap (λ (b : Roomy ℕ). b.room) new.room.bytes in
    let none : s.room.bytes.items ≡ [] = ap (λ (b : Roomy ℕ). b.items) new.room.bytes in
    let few = new.script_is.frames.1 in
    let empty : length s.room.bytes.items ≡ 0 = ap (λ (xs : List ℕ). length xs) none in
    (record { small = omega (arith, same, few); buffer = new.room.buffer ∙ sym same; bytes = omega (arith, same, wide); waits = omega (arith, empty); ends = (pcm_of s.parties.fast.frames s.parties.fast.log, ap (λ (xs : List ℕ). pcm_of s.parties.fast.frames s.parties.fast.log ++ xs) none ∙ append-nil (pcm_of s.parties.fast.frames s.parties.fast.log)) }, none)

module _ (script : ScriptData) (rig : Rig) (here : rig.tracks.now ≡ script.tracks) (s : Stage) (room : s.room.released ≡ record { items = []; room = length script.tracks }) where
  -- rounds of their form, after which the parties are ready for another, were noted
  pub is_noted : (n : ℕ) → IsReadyOn rig n s.parties → (rounds : RoundsNoted) → AreNoted (length rig.tracks.now) rounds s.parties.fast.log → All IsFrame s.parties.fast.log.frames → HasRanges (journal_of rounds s.parties.fast.log)
      → IsTally (shown_on script rounds s) s.room.tally → IsNoted script rounds s
  is_noted n ready rounds are samples numbers tally =
      let tracks : length rig.tracks.now ≡ length script.tracks = ap (λ (ts : List TrackSpec). length ts) here in
      record {
        tracks = are.tracks_are ∙ tracks;
        whole = journal_whole (length rig.tracks.now) rounds s.parties.fast.log are samples;
        form = journal_form (length rig.tracks.now) rounds s.parties.fast.log are samples numbers;
        count = sym ready.given.0 ∙ tracks;
        tally = tally;
        released = released_few rig.links (given_of rig) n s.parties ready;
        room = room;
      }

-- a session has few tracks
few_tracks : (links : Links) (g : Given) (n : ℕ) (t : SessionState) → IsReady links g n t → length g.tracks < 2 ^ 32
few_tracks links g n t ready = let few = ready.together.normal.tied.sizes.few in omega (arith, few, ready.given.0, ready.together.count)

-- all turns were played on a stage, and the frames and the numbers of the log have their form
module _ (script : ScriptData) (rig : Rig) (s : Stage) (room : s.room.released ≡ record { items = []; room = length script.tracks }) (n : ℕ) (far : HasPlayedTo script rig n s.parties s.room.tally) (all : length script.turns ≤ n) where
  abbrev given : Given
  given = given_of rig

  abbrev noted : RoundsNoted
  noted = noted_of given far.rounds

  played : SoFar given script.turns far.start far.rounds s.parties s.room.tally
  played = subst (λ (turns : List TurnSpec). SoFar given turns far.start far.rounds s.parties s.room.tally) (take_all n script.turns all) far.far

  pub has_rendered : All IsFrame s.parties.fast.log.frames → All FitsEntry s.parties.fast.log.entries → HasRendered script rig.files.now noted s
  has_rendered samples entries = record {
    all = rendered script far.shared far.start far.new rig.files.now script.turns far.rounds s.parties
        (subst (λ (ts : List TrackSpec). Runs (record { tracks = ts; files = rig.files.now }) script.turns far.start far.rounds s.parties) far.here played.run);
    noted = is_noted script rig far.here s room n far.ready noted played.noted samples (ranges_dealt noted s.parties.fast.log (few_tracks rig.links given n s.parties far.ready) played.numbers entries)
        (tally_end script far.shared far.start far.new rig.links given n script.turns noted s.parties s.room.tally far.ready played.run refl far.frames played.tally_is);
  }
