use Rattle.std.proofs.Common.{◌≡◌, ◌<◌, ℕ, length, true, true≢false, sym, ◌∙◌, arith}
use Rattle.af_rendering.proofs.Common.{Given}
use Rattle.af_rendering.proofs.FilesGiven.{files_step, serves_there, served_here}
use Rattle.af_rendering.proofs.given_files.have_files.Goals as goal

pub loop-i-preserved : goal.loop-i-preserved
loop-i-preserved c =
    let given : Given = record { tracks = c.args.tracks.now; files = c.args.files.now } in
    let i : ℕ = c.loop-i.i in
    let lt : i < length given.tracks = omega (arith, c.loop-i-test.true, c.loop-i.auto.i-end) in
    let count : length given.files ≡ length given.tracks = omega arith in
    files_step given i c.loop-i.invariant
    (serves_there given i c.index-tracks-i.result c.as_slice-ops.result.now c.index-files-i.result c.frames-file.result.now lt count c.index-tracks-i.is c.as_slice-ops.ensures.ops c.index-files-i.is c.frames-file.ensures
    (c.is_file_for.ensures.yes c.if-not-is_file_for.false))

pub returns-then-not-is_file_for-clause-no : goal.returns-then-not-is_file_for-clause-no
returns-then-not-is_file_for-clause-no c = λ have.
    let given : Given = record { tracks = c.args.tracks.now; files = c.args.files.now } in
    let i : ℕ = c.loop-i.i in
    let lt : i < length given.tracks = omega (arith, c.loop-i-test.true, c.loop-i.auto.i-end) in
    let count : length given.files ≡ length given.tracks = omega arith in
    let here = served_here given i c.index-tracks-i.result c.as_slice-ops.result.now c.index-files-i.result c.frames-file.result.now lt count c.index-tracks-i.is c.as_slice-ops.ensures.ops c.index-files-i.is c.frames-file.ensures (have.each i lt) in
    let yes : c.is_file_for.result ≡ true = c.is_file_for.ensures.no here in
    absurd (true≢false (sym yes ∙ c.if-not-is_file_for.true))

pub returns-clause-yes : goal.returns-clause-yes
returns-clause-yes c = λ yes.
    let i : ℕ = c.loop-i.i in
    record {
      count = omega arith;
      each = (λ k lt. c.loop-i.invariant k (omega (arith, lt, c.loop-i-test.false, c.loop-i.auto.i-end)));
    }
