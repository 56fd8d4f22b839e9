-- What a turn hears of a lent track: the frames that the last report tells of and that weren't heard of before.
use Rattle.std.proofs.Common.{◌≡◌, ℕ, ◌+◌, ◌-◌, ◌<◌, ◌&&◌, ◌||◌, nat_lt, if◌then◌else◌, is_some, Bool, true, false, true≢false, Option, None, List, [], ◌∷◌, length, refl, sym, ap, ◌∙◌, arith, eq-eqb}
use Rattle.af_enough_law.proofs.Common.{CommandLook, Counts, FastState, Heard, Home, Learnt, Lent, NormalKept, Setup, SlotReport, TrackKept, Turn, after_look, after_looks, after_part, comes_home, counts_in, ended, goes_on, grown, heard, heard_at_home, heard_by, heard_elsewhere, heard_with, is_home, is_lent, is_reached, is_reported, is_shut, must_wait, no_counts, noted, obeyed, plays, ready, settled_at, shows_command, slot_reported, track_at, track_in, turn_after, welcomed}
use Rattle.af_enough_law.proofs.TrackTurns.{greeted, attended, Edited, stays, leaves, enters, TrackTurned}
use Rattle.af_enough_law.proofs.Drafts.{attended_holder}
use Rattle.af_enough_law.proofs.Following.{greeted_in}
use Rattle.af_enough_law.proofs.Generations.{greeted_lent, no_entry}
use Rattle.af_enough_law.proofs.Served.{track_turned}

-- ## What was heard of

-- the looks that were heard of stay
either : (b : Bool) (s t : TrackKept) (n : Counts) → s.reported ≡ n → t.reported ≡ n → (if b then s else t).reported ≡ n
either true s t n e f = e
either false s t n e f = f

pub greeted_reported : (ack : Bool) (last : FastState) (s : TrackKept) → (greeted ack last s).reported ≡ s.reported
unfolding welcomed
greeted_reported true last s = either (comes_home last s) (record s { holder = Home }) s s.reported refl refl
greeted_reported false last s = refl

look_reported : (given : Option ℕ) (flush_seen : ℕ) (look : CommandLook) (s : TrackKept) → (after_look given flush_seen look s).reported ≡ s.reported
unfolding after_look obeyed
look_reported given flush_seen look s =
    either (shows_command look.seen) (obeyed given flush_seen look.code look.argument s) (if is_shut look.seen then ended s else s) s.reported
    (either (must_wait flush_seen look.code look.argument s.life) _ _ s.reported refl refl) (either (is_shut look.seen) (ended s) s s.reported refl refl)

looks_reported : (given : Option ℕ) (flush_seen : ℕ) (looks : List CommandLook) (s : TrackKept) → (after_looks given flush_seen looks s).reported ≡ s.reported
looks_reported given flush_seen [] s = refl
looks_reported given flush_seen (look ∷ looks) s = let t : TrackKept = after_look given flush_seen look s in let now = look_reported given flush_seen look s in
    either (goes_on look t) (after_looks given flush_seen looks t) t s.reported (looks_reported given flush_seen looks t ∙ now) now

noted_reported : (r : SlotReport) (s : TrackKept) → is_home s.holder ≡ false → r.generation ≡ s.generation → (noted r s).reported ≡ counts_in r
unfolding noted
noted_reported r s away same =
    ap (λ (b : Bool). (if b then record s { own = no_counts } else if is_reported r s then record s { reported = counts_in r } else s).reported) away
    ∙ ap (λ (b : Bool). (if b then record s { reported = counts_in r } else s).reported) (eq-eqb r.generation s.generation same)

ready_reported : (k : Learnt) (i : ℕ) (s : TrackKept) → is_home s.holder ≡ false → (slot_reported k s).generation ≡ s.generation → (ready k i s).reported ≡ counts_in (slot_reported k s)
unfolding settled_at
ready_reported k i s away same = let r : TrackKept = noted (slot_reported k s) s in let first = noted_reported (slot_reported k s) s away same in
    either (is_reached (heard k i s).flush_seen r.awaits) (record r { awaits = None; settled = r.settled + 1 }) r (counts_in (slot_reported k s)) first first

part_reported : (given : Option ℕ) (k : Learnt) (i : ℕ) (looks : List CommandLook) (s : TrackKept) (b : Bool) → b ≡ false → is_home s.holder ≡ false → (slot_reported k s).generation ≡ s.generation
    → (if b then s else after_part given (heard k i s) looks (ready k i s)).reported ≡ counts_in (slot_reported k s)
unfolding after_part
part_reported given k i looks s true alive away same = absurd (true≢false alive)
part_reported given k i looks s false alive away same =
    let r : TrackKept = ready k i s in
    let first = ready_reported k i s away same in
    either (is_some r.awaits) r (after_looks given (heard k i s).flush_seen looks r) (counts_in (slot_reported k s)) first (looks_reported given (heard k i s).flush_seen looks r ∙ first)

edited_reported : (own : Heard) (s t : TrackKept) → is_lent s.holder ≡ true → Edited own s t → t.reported ≡ s.reported
edited_reported own s t lent (stays a b) = refl
edited_reported own s t lent (leaves a) = refl
edited_reported own s t lent (enters draft a) = absurd (true≢false (sym a ∙ no_entry s.holder (is_some s.slot && plays s.life) lent))

-- A turn has heard of all looks that the report tells which it finds of a lent track
pub reported_turned : (c : Setup) (k : Learnt) (m : NormalKept) (e : Turn) (i : ℕ) → i < length m.tracks → e.ended ≡ false → (track_at m.tracks i).holder ≡ Lent → (greeted_in m e i).life.ended ≡ false → (slot_reported k (greeted_in m e i)).generation ≡ (greeted_in m e i).generation
    → (track_at (turn_after c k m e).tracks i).reported ≡ counts_in (slot_reported k (greeted_in m e i))
reported_turned c k m e i lt runs lent alive same =
    let t : TrackTurned c k m e i = track_turned c k m e i lt runs in
    let g : TrackKept = greeted_in m e i in
    let held : g.holder ≡ Lent = greeted_lent e.ack m.last (track_at m.tracks i) lent in
    let at : TrackKept = attended t.given k i (track_in e i).looks g in
    let away : is_lent at.holder ≡ true = ap is_lent (attended_holder t.given k i (track_in e i).looks g ∙ held) in
    ap (λ (x : TrackKept). x.reported) t.after ∙ edited_reported (k.own i) at t.edited away t.edit ∙ part_reported t.given k i (track_in e i).looks g g.life.ended alive (ap is_home held) same

-- ## What is heard

more_than : (a b c d : ℕ) → c + d < a + b → (nat_lt 0 (a - c) || nat_lt 0 (b - d)) ≡ true
more_than a b c d less = by (nat_lt 0 (a - c)) (nat_lt 0 (b - d)) refl refl
  where
    by : (x y : Bool) → nat_lt 0 (a - c) ≡ x → nat_lt 0 (b - d) ≡ y → (x || y) ≡ true
    by true y e f = refl
    by false true e f = refl
    by false false e f = let n : a - c ≡ 0 = search (arith, e) in let m : b - d ≡ 0 = search (arith, f) in absurd (let z : ⊥ = omega (arith, n, m, less) in z)

-- Frames are heard of, if the report tells of more looks that showed some than were heard of before
pub hears_fresh : (own : Heard) (r : SlotReport) (g : TrackKept) → is_home g.holder ≡ false → r.generation ≡ g.generation → g.reported.fulls + g.reported.partials < r.fulls + r.partials
    → (nat_lt 0 (heard_by own r g).known.fulls || nat_lt 0 (heard_by own r g).known.partials) ≡ true
unfolding heard_by
hears_fresh own r g away same less =
    let is : (if is_home g.holder then heard_at_home own g else heard_elsewhere r g) ≡ heard_with r.consumed r.flush_seen r.shut (grown (counts_in r) g.reported) =
    ap (λ (b : Bool). if b then heard_at_home own g else heard_elsewhere r g) away
    ∙ ap (λ (b : Bool). if b then heard_with r.consumed r.flush_seen r.shut (grown (counts_in r) g.reported) else g.at_attach) (eq-eqb r.generation g.generation same) in
    ap (λ (h : Heard). nat_lt 0 h.known.fulls || nat_lt 0 h.known.partials) is ∙ more_than r.fulls r.partials g.reported.fulls g.reported.partials less
