use Rattle.std.proofs.Common.{subst, ◌∙◌, map}
use Rattle.af_session.proofs.Common.{IsMakeCause, MixerSpec, engine_track}
use Rattle.af_engine.specs.declared.spec.MakeError.{MakeError}
use Rattle.af_engine.proofs.Specs.{no_cause}
use Rattle.af_session.proofs.Begins.{spec_fits}
use Rattle.af_session.proofs.making.make_ends.Goals as goal

pub unreachable-requires : goal.unreachable-requires
unreachable-requires c =
    let spec : MixerSpec = record { frames = c.frames.result; normal = c.normal.result; cycles = c.cycles.result; tracks = c.deref.result } in
    let fits = spec_fits c.args.script.now spec c.version.ensures.script (record {
      frames = c.frames.ensures.value;
      normal = c.normal.ensures.value;
      cycles = c.cycles.ensures.value;
      tracks = c.deref.ensures.value ∙ c.in_ok-tracks.ensures ∙ (λ i. map (engine_track (c.version.ensures.value i)) (c.tracks.ensures.value i));
    }) in
    no_cause spec c.in-Err-Spec.field-0-0 fits (subst (λ (e : MakeError). IsMakeCause e spec) c.in-Err-Spec.field-0-is c.in-Err-Spec.ensures.refused)
