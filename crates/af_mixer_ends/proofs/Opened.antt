-- The ends of a new mixer are in order.
use Rattle.std.proofs.Common.{◌≡◌, ℕ, ◌<◌, List, [], ◌∷◌, ◌++◌, length, slice_get, Some, refl, sym, ap, ◌∙◌, subst}
use Rattle.af_cblk.specs.declared.view.ClientPart.{ClientPart}
use Rattle.af_cblk.specs.Sides.{Made}
use Rattle.af_engine.specs.declared.ends.TrackEnds.{TrackEnds}
use Rattle.af_engine.specs.declared.spec.MixerSpec.{MixerSpec}
use Rattle.af_engine.specs.Engines.{EngineState, AreTogether}
use Rattle.af_engine.specs.MixerSpecs.{IsMixerSpec}
use Rattle.af_engine.specs.NewEngine.{IsNewEngine}
use Rattle.af_engine.specs.Shares.{SharedState, AreLinksOf}
use Rattle.af_fast.specs.Mixer.{MixerState}
use Rattle.af_link.specs.declared.links.Links.{Links}
use Rattle.af_model.specs.History.{is_lawful}
use Rattle.std.proofs.lemmas.Option.{same_Some, slice_get_within}
use Rattle.af_mixer_ends.specs.Mixers.{IsNormalEnd, IsFastEnd}
use Rattle.af_mixer_ends.specs.Opening.{AreEnds}
use Rattle.af_mixer_ends.specs.Tracks.{HasCommandRoom, IsTrackEnd}
use Rattle.af_mixer_ends.proofs.Moves.{links_of, lead}

-- what stands behind the first of a list
pub at_middle : {X : Type 0} (xs ys : List X) (x : X) → slice_get (xs ++ x ∷ ys) (length xs) ≡ Some x
at_middle [] ys x = refl
at_middle (y ∷ xs) ys x = at_middle xs ys x

module _ (spec : MixerSpec) (s : SharedState) (e : EngineState) (fits : IsMixerSpec spec) (new : IsNewEngine spec s e) (together : (links : Links) → AreLinksOf s links → AreTogether links e) where
  normal_end : IsNormalEnd s e.normal
  normal_end links are = (together links are).normal

  fast_end : IsFastEnd s spec.frames spec.cycles e.fast
  fast_end = record {
    order = record { earlier = []; order = (together (links_of s) (lead s)).fast.0 };
    linked = λ links are. (together links are).fast.1;
    turn = ap (λ (m : MixerState). m.adopted) new.fast;
    sizes = (ap (λ (m : MixerState). m.frames) new.fast, ap (λ (m : MixerState). m.cycles) new.fast);
    some = fits.cycles.0;
  }

  -- the two proxies of a track are of its blocks, new and in order
  track_end : (i : ℕ) (p : TrackEnds) → slice_get e.tracks i ≡ Some p → IsTrackEnd s p
  track_end i p here =
      let one = new.tracks.each i (subst (λ (n : ℕ). i < n) new.tracks.parties (slice_get_within e.tracks i p here)) in
      let is : one.party ≡ p = same_Some one.party p (sym one.party_at ∙ here) in
      let line : IsTrackEnd s one.party = record {
        stream_is = ap (λ (n : ℕ). slice_get s.streams n) one.new.place_is ∙ one.stream_at_place ∙ ap (λ (b : Made). Some b) (sym one.new.stream_line.client_is.0);
        command_is = ap (λ (n : ℕ). slice_get s.commands n) one.new.place_is ∙ one.command_at ∙ ap (λ (b : Made). Some b) (sym one.new.command_line.client_is.0);
        order = (one.new.stream_line.client_is.1, one.new.command_line.client_is.1);
        lawful = (ap (λ (q : ClientPart). is_lawful q.events) one.new.stream_line.client_new.part, ap (λ (q : ClientPart). is_lawful q.events) one.new.command_line.client_new.part);
        room = subst HasCommandRoom (sym one.new.command_line.client_is.0) (one.new.command_shape.frames, one.new.command_shape.base);
      } in
      subst (IsTrackEnd s) is line

  pub ends : AreEnds s spec.frames spec.cycles e
  ends = record { normal = normal_end; fast = fast_end; tracks = track_end }
