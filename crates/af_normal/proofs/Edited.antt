-- What the edit of one track leaves.
use Rattle.std.proofs.Common.{Bool, true, false, if◌then◌else◌, ◌==◌, ◌≡◌, ℕ, zero, suc, List, Option, length, refl, sym, ap, ◌∙◌, length-set}
use Rattle.af_normal.proofs.Common.{Command, Mutates, ServerState, StreamNames, TrackKept, by_bool, code_of, draft_commanded as with_command, must_enter, must_leave, track_at}
use Rattle.af_normal.specs.Editing.{LetsGo, Lends}
use Rattle.af_normal.specs.Mutating.{EditsAll, EditsTo, EditsTrack, begun, commands, due_command, finished}
use Rattle.af_normal.specs.State.{NormalState}

-- the tracks are as many as before
pub edited_long : (i : ℕ) (x y : NormalState) → EditsTrack i x y → length y.tracks ≡ length x.tracks
edited_long i x y e = by_bool (must_leave (track_at x.tracks i)) (LetsGo i x y) _ (length y.tracks ≡ length x.tracks)
    (λ l. ap (λ (z : NormalState). length z.tracks) l ∙ length-set x.tracks i _)
    (λ m. by_bool (must_enter (track_at x.tracks i)) (Lends i x y) (y ≡ x) (length y.tracks ≡ length x.tracks)
    (λ l. ap (λ (z : NormalState). length z.tracks) l.2 ∙ length-set x.tracks i _)
    (λ l. ap (λ (z : NormalState). length z.tracks) l) m) e

-- nothing but the tracks, the streams and the mutator is another
abbrev pub OnlyEdits : NormalState → NormalState → Type 0
OnlyEdits x y = y ≡ record x { tracks = y.tracks; streams = y.streams; mutator = y.mutator }

pub edit_only : (i : ℕ) (x y : NormalState) → EditsTrack i x y → OnlyEdits x y
edit_only i x y e = by_bool (must_leave (track_at x.tracks i)) (LetsGo i x y) _ (OnlyEdits x y)
    (λ l. only l)
    (λ m. by_bool (must_enter (track_at x.tracks i)) (Lends i x y) (y ≡ x) (OnlyEdits x y) (λ l. only l.2) (λ l. only l) m) e
  where
    only : {tracks : List TrackKept} {streams : List (Option ServerState)} {mutator : Mutates ServerState StreamNames} → y ≡ record x { tracks = tracks; streams = streams; mutator = mutator } → OnlyEdits x y
    only l = l ∙ sym (ap (λ (z : NormalState). record x { tracks = z.tracks; streams = z.streams; mutator = z.mutator }) l)

pub edits_only : (n : ℕ) (x y : NormalState) → EditsTo n x y → OnlyEdits x y
edits_only zero x y e = e ∙ sym (ap (λ (z : NormalState). record x { tracks = z.tracks; streams = z.streams; mutator = z.mutator }) e)
edits_only (suc n) x y e = edit_only n e.0 y e.2 ∙ ap (λ (z : NormalState). record z { tracks = y.tracks; streams = y.streams; mutator = y.mutator }) (edits_only n x e.0 e.1)

pub all_only : (room : ℕ) (x y : NormalState) → EditsAll room x y → OnlyEdits x y
all_only room x y e =
    let inner : OnlyEdits (record x { mutator = begun x.mutator }) e.edited = edits_only (length x.tracks) (record x { mutator = begun x.mutator }) e.edited e.tracks in
    let after : y ≡ record x { tracks = e.edited.tracks; streams = e.edited.streams; mutator = finished (commands (due_command room e.edited) e.edited.mutator) } =
    e.leaves ∙ ap (λ (z : NormalState). record z { mutator = finished (commands (due_command room e.edited) e.edited.mutator) }) inner in
    after ∙ sym (ap (λ (z : NormalState). record x { tracks = z.tracks; streams = z.streams; mutator = z.mutator }) after)

-- no change to cold idle is counted
pub edit_colds : (i : ℕ) (x y : NormalState) → EditsTrack i x y → y.mutator.draft.cold_gen ≡ x.mutator.draft.cold_gen
edit_colds i x y e = by_bool (must_leave (track_at x.tracks i)) (LetsGo i x y) _ (y.mutator.draft.cold_gen ≡ x.mutator.draft.cold_gen)
    (λ l. ap (λ (z : NormalState). z.mutator.draft.cold_gen) l)
    (λ m. by_bool (must_enter (track_at x.tracks i)) (Lends i x y) (y ≡ x) (y.mutator.draft.cold_gen ≡ x.mutator.draft.cold_gen)
    (λ l. ap (λ (z : NormalState). z.mutator.draft.cold_gen) l.2) (λ l. ap (λ (z : NormalState). z.mutator.draft.cold_gen) l) m) e

pub edits_colds : (n : ℕ) (x y : NormalState) → EditsTo n x y → y.mutator.draft.cold_gen ≡ x.mutator.draft.cold_gen
edits_colds zero x y e = ap (λ (z : NormalState). z.mutator.draft.cold_gen) e
edits_colds (suc n) x y e = edit_colds n e.0 y e.2 ∙ edits_colds n x e.0 e.1

-- a command goes on with the mutation
pub commands_editing : (command : Command) (m : Mutates ServerState StreamNames) → (commands command m).editing ≡ m.editing
commands_editing command m = by_code (code_of command == code_of m.draft.command)
  where
    by_code : (b : Bool) → (if b then m else record m { draft = with_command command m.draft; edited = true }).editing ≡ m.editing
    by_code true = refl
    by_code false = refl
