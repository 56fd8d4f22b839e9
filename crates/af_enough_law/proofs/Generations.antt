-- A track whose proxy is lent keeps its generation, and what it knew when it was attached, in a turn.
use Rattle.std.proofs.Common.{◌≡◌, ℕ, ◌+◌, ◌<◌, ◌&&◌, not, if◌then◌else◌, is_some, Bool, true, false, true≢false, Option, None, List, [], ◌∷◌, length, refl, sym, ap, ◌∙◌, subst}
use Rattle.af_enough_law.proofs.Common.{CommandLook, FastState, Heard, Holder, Home, Learnt, Lent, NormalKept, Returning, Setup, SlotReport, TrackKept, Turn, after_look, after_looks, after_part, carries, comes_home, counts_in, ended, goes_on, heard, is_home, is_lent, is_reached, is_reported, is_returning, is_shut, must_wait, no_counts, noted, obeyed, plays, ready, settled_at, shows_command, slot_number, slot_reported, track_at, track_in, turn_after, welcomed}
use Rattle.af_enough_law.proofs.Drafts.{next_holder, attended_holder, holder_turned}
use Rattle.af_enough_law.proofs.TrackTurns.{greeted, attended, Edited, stays, leaves, enters, TrackTurned}
use Rattle.af_enough_law.proofs.Following.{greeted_in}
use Rattle.af_enough_law.proofs.Served.{track_turned}

-- both have the same attachment: its generation, and what was known then
pub record Attached (s t : TrackKept) : Type 0 where
  pub generation : t.generation ≡ s.generation
  pub at_attach : t.at_attach ≡ s.at_attach

either : (b : Bool) (r s t : TrackKept) → Attached r s → Attached r t → Attached r (if b then s else t)
either true r s t h g = h
either false r s t h g = g

same : (s : TrackKept) → Attached s s
same s = record { generation = refl; at_attach = refl }

both : (r s t : TrackKept) → Attached r s → Attached s t → Attached r t
both r s t h g = record { generation = g.generation ∙ h.generation; at_attach = g.at_attach ∙ h.at_attach }

pub greeted_same : (ack : Bool) (last : FastState) (s : TrackKept) → Attached s (greeted ack last s)
unfolding welcomed
greeted_same true last s = either (comes_home last s) s (record s { holder = Home }) s (record { generation = refl; at_attach = refl }) (same s)
greeted_same false last s = same s

look_same : (given : Option ℕ) (flush_seen : ℕ) (look : CommandLook) (s : TrackKept) → Attached s (after_look given flush_seen look s)
unfolding after_look obeyed
look_same given flush_seen look s =
    either (shows_command look.seen) s (obeyed given flush_seen look.code look.argument s) (if is_shut look.seen then ended s else s)
    (either (must_wait flush_seen look.code look.argument s.life) s _ _ (record { generation = refl; at_attach = refl }) (record { generation = refl; at_attach = refl }))
    (either (is_shut look.seen) s (ended s) s (record { generation = refl; at_attach = refl }) (same s))

looks_same : (given : Option ℕ) (flush_seen : ℕ) (looks : List CommandLook) (s : TrackKept) → Attached s (after_looks given flush_seen looks s)
looks_same given flush_seen [] s = same s
looks_same given flush_seen (look ∷ looks) s = let t : TrackKept = after_look given flush_seen look s in
    let now = look_same given flush_seen look s in either (goes_on look t) s (after_looks given flush_seen looks t) t (both s t (after_looks given flush_seen looks t) now (looks_same given flush_seen looks t)) now

noted_same : (r : SlotReport) (s : TrackKept) → Attached s (noted r s)
unfolding noted
noted_same r s = either (is_home s.holder) s (record s { own = no_counts }) (if is_reported r s then record s { reported = counts_in r } else s) (record { generation = refl; at_attach = refl })
    (either (is_reported r s) s (record s { reported = counts_in r }) s (record { generation = refl; at_attach = refl }) (same s))

ready_same : (k : Learnt) (i : ℕ) (s : TrackKept) → Attached s (ready k i s)
unfolding settled_at
ready_same k i s = let r : TrackKept = noted (slot_reported k s) s in let first = noted_same (slot_reported k s) s in
    either (is_reached (heard k i s).flush_seen r.awaits) s (record r { awaits = None; settled = r.settled + 1 }) r (record { generation = first.generation; at_attach = first.at_attach }) first

attended_same : (given : Option ℕ) (k : Learnt) (i : ℕ) (looks : List CommandLook) (s : TrackKept) → Attached s (attended given k i looks s)
unfolding after_part
attended_same given k i looks s =
    let r : TrackKept = ready k i s in
    let first = ready_same k i s in
    let t : TrackKept = after_looks given (heard k i s).flush_seen looks r in
    let rest = both s r t first (looks_same given (heard k i s).flush_seen looks r) in
    let told_all = by (is_some r.awaits) r t first rest in
    either s.life.ended s s (after_part given (heard k i s) looks r) (same s) (record { generation = told_all.generation; at_attach = told_all.at_attach })
  where
    by : (b : Bool) (r t : TrackKept) → Attached s r → Attached s t → Attached s (if b then r else t)
    by b r t h g = either b s r t h g

-- ## The turn

pub no_entry : (h : Holder) (b : Bool) → is_lent h ≡ true → (is_home h && b) ≡ false
no_entry Home b e = absurd (true≢false (sym e))
no_entry Lent b e = refl
no_entry Returning b e = absurd (true≢false (sym e))

edited_same : (own : Heard) (s t : TrackKept) → is_lent s.holder ≡ true → Edited own s t → Attached s t
edited_same own s t lent (stays a b) = same s
edited_same own s t lent (leaves a) = record { generation = refl; at_attach = refl }
edited_same own s t lent (enters draft a) = absurd (true≢false (sym a ∙ no_entry s.holder (is_some s.slot && plays s.life) lent))

-- a proxy that is lent doesn't come home by an acknowledgement
pub greeted_lent : (ack : Bool) (last : FastState) (s : TrackKept) → s.holder ≡ Lent → (greeted ack last s).holder ≡ Lent
unfolding welcomed
greeted_lent false last s lent = lent
greeted_lent true last s lent =
    let gone : comes_home last s ≡ false = ap (λ (h : Holder). is_returning h && not (carries last (slot_number s))) lent in
    ap (λ (b : Bool). (if b then record s { holder = Home } else s).holder) gone ∙ lent

pub attached_stays : (c : Setup) (k : Learnt) (m : NormalKept) (e : Turn) (i : ℕ) → i < length m.tracks → e.ended ≡ false → (track_at m.tracks i).holder ≡ Lent → Attached (track_at m.tracks i) (track_at (turn_after c k m e).tracks i)
attached_stays c k m e i lt runs lent =
    let t : TrackTurned c k m e i = track_turned c k m e i lt runs in
    let s : TrackKept = track_at m.tracks i in
    let g : TrackKept = greeted_in m e i in
    let at : TrackKept = attended t.given k i (track_in e i).looks g in
    let away : is_lent at.holder ≡ true = ap is_lent (attended_holder t.given k i (track_in e i).looks g ∙ greeted_lent e.ack m.last s lent) in
    let first = both s g at (greeted_same e.ack m.last s) (attended_same t.given k i (track_in e i).looks g) in
    let edited = both s at t.edited first (edited_same (k.own i) at t.edited away t.edit) in
    both s t.edited (track_at (turn_after c k m e).tracks i) edited (subst (Attached t.edited) (sym t.after) (record { generation = refl; at_attach = refl }))

away_entry : (h : Holder) (b : Bool) → is_home h ≡ false → (is_home h && b) ≡ false
away_entry Home b e = absurd (true≢false e)
away_entry Lent b e = refl
away_entry Returning b e = refl

away_same : (own : Heard) (s t : TrackKept) → is_home s.holder ≡ false → Edited own s t → Attached s t
away_same own s t away (stays a b) = same s
away_same own s t away (leaves a) = record { generation = refl; at_attach = refl }
away_same own s t away (enters draft a) = absurd (true≢false (sym a ∙ away_entry s.holder (is_some s.slot && plays s.life) away))

-- a track whose proxy is away when it is served keeps its attachment
pub attached_away : (c : Setup) (k : Learnt) (m : NormalKept) (e : Turn) (i : ℕ) → i < length m.tracks → e.ended ≡ false → is_home (greeted_in m e i).holder ≡ false → Attached (track_at m.tracks i) (track_at (turn_after c k m e).tracks i)
attached_away c k m e i lt runs away =
    let t : TrackTurned c k m e i = track_turned c k m e i lt runs in
    let s : TrackKept = track_at m.tracks i in
    let g : TrackKept = greeted_in m e i in
    let at : TrackKept = attended t.given k i (track_in e i).looks g in
    let still : is_home at.holder ≡ false = ap is_home (attended_holder t.given k i (track_in e i).looks g) ∙ away in
    let first = both s g at (greeted_same e.ack m.last s) (attended_same t.given k i (track_in e i).looks g) in
    let edited = both s at t.edited first (away_same (k.own i) at t.edited still t.edit) in
    both s t.edited (track_at (turn_after c k m e).tracks i) edited (subst (Attached t.edited) (sym t.after) (record { generation = refl; at_attach = refl }))

-- who is lent after a turn is to be heard
pub lent_plays : (c : Setup) (k : Learnt) (m : NormalKept) (e : Turn) (i : ℕ) → i < length m.tracks → e.ended ≡ false → (track_at m.tracks i).holder ≡ Lent → (track_at (turn_after c k m e).tracks i).holder ≡ Lent → plays (track_at (turn_after c k m e).tracks i).life ≡ true
lent_plays c k m e i lt runs lent after =
    let t : TrackKept = track_at (turn_after c k m e).tracks i in
    by (plays t.life) (is_some t.slot) (sym after ∙ holder_turned c k m e i lt runs ∙ ap (next_holder (plays t.life) (is_some t.slot)) (greeted_lent e.ack m.last (track_at m.tracks i) lent))
  where
    by : (b slot : Bool) → Lent ≡ (if b then Lent else Returning) → b ≡ true
    by true slot e = refl
    by false slot e = absurd (true≢false (ap is_lent e))
