use Rattle.std.proofs.Common.{◌≡◌, ◌∙◌, ◌+◌, ◌≤◌, ◌<◌, ℕ, List, Ok, Err, length, arith, ap, subst, sym}
use Rattle.af_offline.proofs.Common.{Frame, Op, frames_to_come}
use Rattle.af_offline.specs.Asked.{enough_of, frames_in, file_within, most_file, track_file_in}
use Rattle.af_offline.specs.Loading.{file_view}
use Rattle.af_offline.specs.Status.{Meets}
use Rattle.af_offline.specs.declared.load.TrackFile.{TrackFile}
use Rattle.af_offline.specs.declared.status.Refusal.TheVariants.{File}
use Rattle.af_offline.specs.declared.status.Role.TheVariants as role
use Rattle.af_offline.specs.declared.status.Stop.{Stop}
use Rattle.af_offline.specs.declared.status.Why.TheVariants.{Total}
use Rattle.af_offline.proofs.Chains.{passed_on}
use Rattle.af_offline.proofs.Loads.{track_done, track_short, track_total, track_unframed, track_unloaded}
use Rattle.af_offline.proofs.load.load_track.Goals as goal
use Rattle.std.specs.Prelude.{◌^◌}

pub returns-in_err-load_into-clause-file : goal.returns-in_err-load_into-clause-file
returns-in_err-load_into-clause-file g c = λ told.
    let files = g.S.Store.files c.args.store.now in
    let number = c.args.number in
    let track = c.args.track.now in
    let e = c.in_err-load_into.field-0.0 in
    let view = λ (done : Unit {0}). c.load_into.new.bytes.items in
    let here : Meets view (Err e) (file_within (role.Track number) most_file (files track.file)) =
    subst (λ (name : List ℕ). Meets view (Err e) (file_within (role.Track number) most_file (files name))) c.as_str-name.ensures.text (c.in_err-load_into.ensures.loaded told) in
    passed_on (λ r. Meets file_view r (track_file_in files number c.args.total track)) c.from_residual.result e (track_unloaded files number c.args.total track view e here) c.from_residual.ensures.1

pub returns-then-total-gt-MOST_FILES-clause-file : goal.returns-then-total-gt-MOST_FILES-clause-file
returns-then-total-gt-MOST_FILES-clause-file g c = λ told.
    let files = g.S.Store.files c.args.store.now in
    let number = c.args.number in
    let total = c.args.total in
    let track = c.args.track.now in
    let bytes = c.load_into.new.bytes.items in
    let is : file_within (role.Track number) most_file (files track.file) ≡ Ok bytes = subst (λ (name : List ℕ). file_within (role.Track number) most_file (files name) ≡ Ok bytes) c.as_str-name.ensures.text (c.in_ok-load_into.ensures.loaded told) in
    let size : c.len.result ≡ length bytes = omega (arith, c.len.ensures, c.load_into.new.bytes.ok.0) in
    let over : 2 ^ 24 < total + length bytes = omega (arith, c.if-total-gt-MOST_FILES.true, size) in
    let why : track_file_in files number total track ≡ Err (File (record { role = role.Track number; why = Total (total + c.len.result) })) =
    track_total files number total track bytes is over ∙ ap (λ (n : ℕ). Err (File (record { role = role.Track number; why = Total (total + n) }))) (sym size) in
    subst (λ (s : Stop). Meets {X = TrackFile} file_view (Err s) (track_file_in files number total track)) (sym c.file_fault.ensures) why

pub returns-in_err-pcm-clause-file : goal.returns-in_err-pcm-clause-file
returns-in_err-pcm-clause-file g c = λ told.
    let files = g.S.Store.files c.args.store.now in
    let number = c.args.number in
    let total = c.args.total in
    let track = c.args.track.now in
    let bytes = c.load_into.new.bytes.items in
    let e = c.in_err-pcm.field-0.0 in
    let is : file_within (role.Track number) most_file (files track.file) ≡ Ok bytes = subst (λ (name : List ℕ). file_within (role.Track number) most_file (files name) ≡ Ok bytes) c.as_str-name.ensures.text (c.in_ok-load_into.ensures.loaded told) in
    let size : c.len.result ≡ length bytes = omega (arith, c.len.ensures, c.load_into.new.bytes.ok.0) in
    let few : total + length bytes ≤ 2 ^ 24 = omega (arith, c.if-total-gt-MOST_FILES.false, size) in
    let here : Meets (λ (pcm : List Frame). pcm) (Err e) (frames_in number track.mono bytes) =
    subst (λ (xs : List ℕ). Meets (λ (pcm : List Frame). pcm) (Err e) (frames_in number track.mono xs)) c.deref.ensures.value c.in_err-pcm.ensures.frames in
    passed_on (λ r. Meets file_view r (track_file_in files number total track)) c.from_residual-in_err-pcm.result e (track_unframed files number total track bytes is few e here) c.from_residual-in_err-pcm.ensures.1

pub returns-in_err-pcm-2-clause-file : goal.returns-in_err-pcm-2-clause-file
returns-in_err-pcm-2-clause-file g c = λ told.
    let files = g.S.Store.files c.args.store.now in
    let number = c.args.number in
    let total = c.args.total in
    let track = c.args.track.now in
    let bytes = c.load_into.new.bytes.items in
    let e = c.in_err-pcm-2.field-0.0 in
    let is : file_within (role.Track number) most_file (files track.file) ≡ Ok bytes = subst (λ (name : List ℕ). file_within (role.Track number) most_file (files name) ≡ Ok bytes) c.as_str-name.ensures.text (c.in_ok-load_into.ensures.loaded told) in
    let size : c.len.result ≡ length bytes = omega (arith, c.len.ensures, c.load_into.new.bytes.ok.0) in
    let few : total + length bytes ≤ 2 ^ 24 = omega (arith, c.if-total-gt-MOST_FILES.false, size) in
    let pcm = c.in_ok-pcm.pcm in
    let frames : frames_in number track.mono bytes ≡ Ok pcm = subst (λ (xs : List ℕ). frames_in number track.mono xs ≡ Ok pcm) c.deref.ensures.value c.in_ok-pcm.ensures.frames in
    let here : Meets (λ (all : List Frame). all) (Err e) (enough_of number (frames_to_come track.ops) pcm) =
    subst (λ (ops : List Op). Meets (λ (all : List Frame). all) (Err e) (enough_of number (frames_to_come ops) pcm)) c.as_slice.ensures.ops c.in_err-pcm-2.ensures.enough in
    passed_on (λ r. Meets file_view r (track_file_in files number total track)) c.from_residual-in_err-pcm-2.result e (track_short files number total track bytes is few pcm frames e here) c.from_residual-in_err-pcm-2.ensures.1

pub returns-clause-file : goal.returns-clause-file
returns-clause-file g c = λ told.
    let files = g.S.Store.files c.args.store.now in
    let number = c.args.number in
    let total = c.args.total in
    let track = c.args.track.now in
    let bytes = c.load_into.new.bytes.items in
    let is : file_within (role.Track number) most_file (files track.file) ≡ Ok bytes = subst (λ (name : List ℕ). file_within (role.Track number) most_file (files name) ≡ Ok bytes) c.as_str-name.ensures.text (c.in_ok-load_into.ensures.loaded told) in
    let size : c.len.result ≡ length bytes = omega (arith, c.len.ensures, c.load_into.new.bytes.ok.0) in
    let few : total + length bytes ≤ 2 ^ 24 = omega (arith, c.if-total-gt-MOST_FILES.false, size) in
    let pcm = c.in_ok-pcm.pcm in
    let all = c.in_ok-pcm-2.pcm in
    let frames : frames_in number track.mono bytes ≡ Ok pcm = subst (λ (xs : List ℕ). frames_in number track.mono xs ≡ Ok pcm) c.deref.ensures.value c.in_ok-pcm.ensures.frames in
    let here : enough_of number (frames_to_come track.ops) pcm ≡ Ok all = subst (λ (ops : List Op). enough_of number (frames_to_come ops) pcm ≡ Ok all) c.as_slice.ensures.ops c.in_ok-pcm-2.ensures.enough in
    track_done files number total track bytes is few pcm frames all here ∙ ap (λ (n : ℕ). Ok (all, total + n)) (sym size)
