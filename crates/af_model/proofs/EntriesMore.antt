-- The entries of a log keep their form as one more is added.
use Rattle.std.proofs.Common.{◌≡◌, ℕ, ◌+◌, ◌≤◌, List, [], ◌∷◌, ◌++◌, length, take, drop, refl, ap, sym, ◌∙◌, subst, arith, All}
use Rattle.af_model.proofs.Common.{CycleEntry, Frame, append-nil, append_cancel_left, drop-append-le, length-drop, length-take, take-append-drop, take-append-le, take_all}
use Rattle.af_base.specs.Sample.{IsFrame}
use Rattle.af_model.specs.Journals.{entries_seen, frames_of, taken_by}
use Rattle.af_model.specs.JournalForm.{IsEntry, AreEntries}

-- the entries of a log whose frames stand from a place on, each of its form, and no frames beside theirs
pub record AreWhole (place : ℕ) (frames : List Frame) (entries : List CycleEntry) : Type 0 where
  pub form : AreEntries place (entries_seen frames entries)
  pub frames_are : frames_of (entries_seen frames entries) ≡ frames

-- an entry that begins where the frames end
pub record Follows (place : ℕ) (entry : CycleEntry) (more : List Frame) : Type 0 where
  pub form : IsEntry place entry
  pub count : length more ≡ taken_by entry
  pub samples : All IsFrame more

-- a log without entries
pub none_whole : (place : ℕ) → AreWhole place [] []
none_whole place = record { form = tt; frames_are = refl }

only_entry : (place : ℕ) (entry : CycleEntry) (more : List Frame) → Follows place entry more → AreWhole place more (entry ∷ [])
only_entry place entry more f = let all : more ≡ take (taken_by entry) more = sym (take_all (taken_by entry) more (let n = f.count in omega arith)) in record {
  form = subst (λ (fs : List Frame). AreEntries place (record { entry = entry; frames = fs } ∷ [])) all (f.form, f.count, f.samples, tt);
  frames_are = append-nil (take (taken_by entry) more) ∙ sym all;
}

-- an entry before others, whose frames stand before theirs
first_entry : (place : ℕ) (e : CycleEntry) (frames : List Frame) (entries : List CycleEntry) (own rest : List Frame) → own ≡ take (taken_by e) frames → rest ≡ drop (taken_by e) frames
    → Follows place e own → AreWhole (place + length own) rest entries → AreWhole place frames (e ∷ entries)
first_entry place e frames entries own rest own_is rest_is f are = record {
  form = subst (λ (p : List Frame × List Frame). AreEntries place (record { entry = e; frames = p.0 } ∷ entries_seen p.1 entries)) (λ k. (own_is k, rest_is k)) (f.form, f.count, f.samples, are.form);
  frames_are = ap (λ (fs : List Frame). take (taken_by e) frames ++ frames_of (entries_seen fs entries)) (sym rest_is)
      ∙ ap (λ (fs : List Frame). take (taken_by e) frames ++ fs) (are.frames_are ∙ rest_is) ∙ take-append-drop (taken_by e) frames;
}

pub one_more : (place : ℕ) (frames : List Frame) (entries : List CycleEntry) (entry : CycleEntry) (more : List Frame) → AreWhole place frames entries → Follows (place + length frames) entry more
    → AreWhole place (frames ++ more) (entries ++ entry ∷ [])
one_more place frames [] entry more are f =
    let place_is : place + length frames ≡ place = (let n = ap length are.frames_are in omega (arith, n)) in
    subst (λ (fs : List Frame). AreWhole place (fs ++ more) (entry ∷ [])) are.frames_are
    (only_entry place entry more (subst (λ (n : ℕ). Follows n entry more) place_is f))
one_more place frames (e ∷ entries) entry more are f =
    let own : List Frame = take (taken_by e) frames in
    let rest : List Frame = drop (taken_by e) frames in
    let count : length own ≡ taken_by e = are.form.1 in
    let few : taken_by e ≤ length frames = (let n = length-take (taken_by e) frames in omega (arith, count, n)) in
    let left : frames_of (entries_seen rest entries) ≡ rest = append_cancel_left own (frames_of (entries_seen rest entries)) rest (are.frames_are ∙ sym (take-append-drop (taken_by e) frames)) in
    let place_is : place + length frames ≡ (place + length own) + length rest = (let n = length-drop (taken_by e) frames in omega (arith, count, few, n)) in
    first_entry place e (frames ++ more) (entries ++ entry ∷ []) own (rest ++ more)
    (sym (take-append-le (taken_by e) frames more few))
    (sym (drop-append-le (taken_by e) frames more few))
    (record { form = are.form.0; count = count; samples = are.form.2 })
    (one_more (place + length own) rest entries entry more (record { form = are.form.3; frames_are = left }) (subst (λ (n : ℕ). Follows n entry more) place_is f))
