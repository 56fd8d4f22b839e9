use Rattle.std.proofs.Common.{◌≡◌, ◌≤◌, ◌*◌, ℕ, ap, ◌∙◌}
use Rattle.af_audit.proofs.Common.{fast_begins, new_normal, pipe_size, power_above, script_setup}
use Rattle.af_audit.proofs.PipeCells.{cells_next, few_frames}
use Rattle.af_audit.proofs.run_judge.RunJudge.new.Goals as goal

pub returns-clause-new : goal.returns-clause-new
returns-clause-new c =
    let script = c.args.script.now in
    let frames : ℕ = c.frames-frames.result in
    let multiple : ℕ = c.normal-multiple.result in
    let normal = c.in_ok-normal.ensures in
    let size : ℕ = 4 * (multiple * frames) in
    let setup : c.in_ok-normal.normal.setup ≡ script_setup script =
    normal.setup ∙ (λ i. record { frames = c.frames-frames.ensures.value i; normal = c.normal-multiple.ensures.value i; settings = (c.deref.ensures.value ∙ c.in_ok-settings.ensures) i }) in
    let size_is : size ≡ pipe_size (script_setup script) = (λ i. 4 * (c.normal-multiple.ensures.value i * c.frames-frames.ensures.value i)) in
    let few : size ≤ 65536 = few_frames script multiple frames c.normal-multiple.ensures.value c.frames-frames.ensures.value c.frames-frames.ensures.script in
    let cells : c.next_power_of_two.result ≡ power_above 16 size = cells_next size c.next_power_of_two.result c.next_power_of_two.ensures.power c.next_power_of_two.ensures.lower_bound c.next_power_of_two.ensures.upper_bound few in
    record {
      setup = setup;
      kept = normal.kept ∙ ap new_normal setup;
      states = normal.new.0;
      handed = normal.new.1;
      fast = c.new-2.ensures ∙ (λ i. fast_begins (c.frames-frames.ensures.value i) (size_is i) ((cells ∙ ap (power_above 16) size_is) i));
      report = c.new-3.ensures;
      cycles = c.from.ensures ∙ c.cycles.ensures.value;
    }
