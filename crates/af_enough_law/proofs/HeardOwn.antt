-- What a turn hears of a track whose proxy is home: the looks of the mix of the turn before.
use Rattle.std.proofs.Common.{◌≡◌, ℕ, zero, suc, ◌+◌, ◌<◌, ◌||◌, nat_lt, if◌then◌else◌, is_some, Bool, true, false, true≢false, Option, None, List, [], ◌∷◌, length, refl, ap, ◌∙◌, arith}
use Rattle.af_enough_law.proofs.Common.{CommandLook, Counts, FastState, Heard, Home, Learnt, NormalKept, Setup, SlotReport, TrackKept, Turn, after_look, after_looks, after_part, asked as buffer, comes_home, counts_in, ended, goes_on, heard, heard_at_home, heard_by, heard_elsewhere, is_home, is_reached, is_reported, is_shut, must_wait, no_counts, noted, obeyed, ready, settled_at, shows_command, slot_reported, track_at, track_in, turn_after, welcomed}
use Rattle.af_enough_law.proofs.TrackTurns.{greeted, attended, own_after, Edited, stays, leaves, enters, TrackTurned}
use Rattle.af_enough_law.proofs.Following.{greeted_in}
use Rattle.af_enough_law.proofs.Served.{track_turned}

either : (b : Bool) (s t : TrackKept) (n : Counts) → s.own ≡ n → t.own ≡ n → (if b then s else t).own ≡ n
either true s t n e f = e
either false s t n e f = f

pub greeted_own : (ack : Bool) (last : FastState) (s : TrackKept) → (greeted ack last s).own ≡ s.own
unfolding welcomed
greeted_own true last s = either (comes_home last s) (record s { holder = Home }) s s.own refl refl
greeted_own false last s = refl

look_own : (given : Option ℕ) (flush_seen : ℕ) (look : CommandLook) (s : TrackKept) → (after_look given flush_seen look s).own ≡ s.own
unfolding after_look obeyed
look_own given flush_seen look s =
    either (shows_command look.seen) (obeyed given flush_seen look.code look.argument s) (if is_shut look.seen then ended s else s) s.own
    (either (must_wait flush_seen look.code look.argument s.life) _ _ s.own refl refl) (either (is_shut look.seen) (ended s) s s.own refl refl)

looks_own : (given : Option ℕ) (flush_seen : ℕ) (looks : List CommandLook) (s : TrackKept) → (after_looks given flush_seen looks s).own ≡ s.own
looks_own given flush_seen [] s = refl
looks_own given flush_seen (look ∷ looks) s = let t : TrackKept = after_look given flush_seen look s in let now = look_own given flush_seen look s in
    either (goes_on look t) (after_looks given flush_seen looks t) t s.own (looks_own given flush_seen looks t ∙ now) now

noted_own : (r : SlotReport) (s : TrackKept) → is_home s.holder ≡ true → (noted r s).own ≡ no_counts
unfolding noted
noted_own r s home = ap (λ (b : Bool). (if b then record s { own = no_counts } else if is_reported r s then record s { reported = counts_in r } else s).own) home

ready_own : (k : Learnt) (i : ℕ) (s : TrackKept) → is_home s.holder ≡ true → (ready k i s).own ≡ no_counts
unfolding settled_at
ready_own k i s home = let r : TrackKept = noted (slot_reported k s) s in let first = noted_own (slot_reported k s) s home in
    either (is_reached (heard k i s).flush_seen r.awaits) (record r { awaits = None; settled = r.settled + 1 }) r no_counts first first

part_own : (given : Option ℕ) (k : Learnt) (i : ℕ) (looks : List CommandLook) (s : TrackKept) (b : Bool) → b ≡ false → is_home s.holder ≡ true → (if b then s else after_part given (heard k i s) looks (ready k i s)).own ≡ no_counts
unfolding after_part
part_own given k i looks s true alive home = absurd (true≢false alive)
part_own given k i looks s false alive home =
    let r : TrackKept = ready k i s in
    let first = ready_own k i s home in
    either (is_some r.awaits) r (after_looks given (heard k i s).flush_seen looks r) no_counts first (looks_own given (heard k i s).flush_seen looks r ∙ first)

edited_own : (own : Heard) (s t : TrackKept) → Edited own s t → t.own ≡ s.own
edited_own own s t (stays a b) = refl
edited_own own s t (leaves a) = refl
edited_own own s t (enters draft a) = refl

-- A turn leaves of the looks at a track at home those of its own mix
pub own_turned : (c : Setup) (k : Learnt) (m : NormalKept) (e : Turn) (i : ℕ) → i < length m.tracks → e.ended ≡ false → is_home (greeted_in m e i).holder ≡ true → (greeted_in m e i).life.ended ≡ false → (track_at (turn_after c k m e).tracks i).own ≡ own_after (buffer c) i no_counts e.mixes
own_turned c k m e i lt runs home alive =
    let t : TrackTurned c k m e i = track_turned c k m e i lt runs in
    let g : TrackKept = greeted_in m e i in
    let at : TrackKept = attended t.given k i (track_in e i).looks g in
    ap (λ (x : TrackKept). x.own) t.after ∙ ap (λ (n : Counts). own_after (buffer c) i n e.mixes) (edited_own (k.own i) at t.edited t.edit ∙ part_own t.given k i (track_in e i).looks g g.life.ended alive home)

some_of : (a b : ℕ) → 0 < a + b → (nat_lt 0 a || nat_lt 0 b) ≡ true
some_of zero zero some = absurd (let z : ⊥ = omega (arith, some) in z)
some_of zero (suc b) some = search (arith, some)
some_of (suc a) b some = ap (λ (x : Bool). x || nat_lt 0 b) (let e : nat_lt 0 (suc a) ≡ true = search (arith, some) in e)

-- the next turn hears of frames, if some of the own looks showed frames
pub hears_own : (own : Heard) (r : SlotReport) (g : TrackKept) → is_home g.holder ≡ true → 0 < g.own.fulls + g.own.partials → (nat_lt 0 (heard_by own r g).known.fulls || nat_lt 0 (heard_by own r g).known.partials) ≡ true
unfolding heard_by
hears_own own r g home some =
    ap (λ (b : Bool). let h = (if b then heard_at_home own g else heard_elsewhere r g) in nat_lt 0 h.known.fulls || nat_lt 0 h.known.partials) home ∙ some_of g.own.fulls g.own.partials some
