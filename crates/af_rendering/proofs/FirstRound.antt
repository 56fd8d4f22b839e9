-- A session that was made new is ready for its first round. What its rounds come to.
use Rattle.std.proofs.Common.{◌≡◌, ℕ, ◌<◌, ◌≤◌, ◌++◌, List, [], length, slice_get, Some, refl, sym, ap, subst, ◌∙◌, arith}
use Rattle.af_rendering.proofs.Common.{AreTogether, CanWork, Frame, Given, IsNewSession, IsReady, Links, MixerState, NormalState, Op, PartyState, RoundNoted, ScriptData, SessionState, SharedState, TurnSpec, file_at, frames_to_come, ops_at, ops_of, pcm_of, same_Some, slice_get_within, tracks_of, whole_new}
use Rattle.af_session.proofs.Words.{IsTrackAt}
use Rattle.af_rendering.specs.Rendered.{HaveFiles, Rendered, Renders, Runs}

module _ (script : ScriptData) (shared : SharedState) (s : SessionState) (new : IsNewSession script shared s) (files : List (List Frame)) where
  abbrev given : Given
  given = record { tracks = script.tracks; files = files }

  -- ## Ready

  track_at : (i : ℕ) (p : PartyState) → slice_get s.clients i ≡ Some p → IsTrackAt script.version i script.tracks shared.streams shared.commands s.clients (tracks_of script s.normal)
  track_at i p at = new.tracks.each i (omega (arith, slice_get_within s.clients i p at, new.tracks.parties))

  party_is : (i : ℕ) (p : PartyState) (at : slice_get s.clients i ≡ Some p) → (track_at i p at).party ≡ p
  party_is i p at = same_Some (track_at i p at).party p (sym (track_at i p at).party_at ∙ at)

  can_work : HaveFiles given → (i : ℕ) (p : PartyState) → slice_get s.clients i ≡ Some p → CanWork (ops_at given i) (length (file_at given i)) p
  can_work have i p at =
      let one = track_at i p at in
      let lt : i < length script.tracks = omega (arith, slice_get_within s.clients i p at, new.tracks.parties) in
      let ops : one.spec.ops ≡ ops_at given i = sym (ap ops_of one.spec_at) in
      let frames = length (file_at given i) in
      let enough : frames_to_come one.spec.ops ≤ frames = subst (λ (os : List Op). frames_to_come os ≤ frames) (sym ops) (have.each i lt).enough in
      subst (λ (x : List Op × PartyState). CanWork x.0 frames x.1) (λ k. (ops k, party_is i p at k)) (one.new.party.work frames enough (have.each i lt).few)

  sent_none : (i : ℕ) (p : PartyState) → slice_get s.clients i ≡ Some p → p.command.released ≡ 0
  sent_none i p at = ap (λ (x : PartyState). x.command.released) (sym (party_is i p at)) ∙ (track_at i p at).new.party.command.kept.1

  pub ready_first : (links : Links) → HaveFiles given → AreTogether links s → IsReady links given 0 s
  ready_first links have together = record {
    together = together;
    between = ap (λ (m : MixerState). m.adopted) new.fast;
    given = (sym new.tracks.parties, have.count ∙ sym new.tracks.parties);
    works = can_work have;
    few = (λ i p at. let none = sent_none i p at in omega arith);
    turns = (let none : s.normal.turns ≡ 0 = ap (λ (m : NormalState). m.turns) new.normal.is in omega arith);
    whole = whole_new s.fast.log (ap (λ (m : MixerState). m.log.entries) new.fast);
  }

  -- ## Sound

  pub frames_first : s.fast.frames ≡ script.frames
  frames_first = ap (λ (m : MixerState). m.frames) new.fast

  -- the log of a new session is empty
  pub empty_first : (s.fast.log.entries ≡ []) × (s.fast.log.frames ≡ [])
  empty_first = (ap (λ (m : MixerState). m.log.entries) new.fast, ap (λ (m : MixerState). m.log.frames) new.fast)

  -- nothing was heard yet of a new session
  pub silent_first : (len : ℕ) → pcm_of len s.fast.log ≡ []
  silent_first len = ap (λ (m : MixerState). pcm_of len m.log) new.fast

  -- turns that were played since a session was made are a run of its script
  pub rendered : (turns : List TurnSpec) (rounds : List RoundNoted) (t : SessionState) → Runs given turns s rounds t → Renders script files turns rounds t
  rendered turns rounds t runs =
      let len = s.fast.frames in
      let heard : pcm_of len t.fast.log ≡ runs.bytes = runs.sound ∙ ap (λ (xs : List ℕ). xs ++ runs.bytes) (silent_first len) in
      record {
        shared = shared;
        start = s;
        new = new;
        bytes = runs.bytes;
        run = runs.run;
        sound = sym heard ∙ ap (λ (n : ℕ). pcm_of n t.fast.log) frames_first;
      }

  -- a new session has rendered no turns
  pub rendered_none : Rendered script files [] s
  rendered_none = ([], record { shared = shared; start = s; new = new; bytes = []; run = (refl, refl, refl); sound = sym (silent_first script.frames) })
