-- The status word that a server stored last is that of its track.
use Rattle.std.proofs.Common.{◌≡◌, ℕ, ◌+◌, ◌<◌, ◌==◌, if◌then◌else◌, is_some, Bool, true, false, Option, Some, None, MatchBool, List, [], ◌∷◌, ◌++◌, length, fold, refl, sym, ap, ◌∙◌, eqb-true}
use Rattle.af_enough_law.proofs.Common.{BlockTold, CommandLook, IsServed, Learnt, Listed, Marks, NormalKept, Outside, RoundSeen, Run, Seen, ServerEvent, Session, Setup, TrackKept, TrackSeen, Turn, after_part, after_round, all_command_events, command_events, command_events_of, command_list, did, drops_of, fold-append, found_in, heard, invalid, is_reached, kept, learnt, look_events, met_after, noted, nothing_seen, outside_of, ready, server_list, settled_at, setup_of, shows_command, slot_reported, status_due, status_events, stored_over, takes_command, told_at, track_at, track_in, tracks_at, turn_after}
use Rattle.af_base.specs.declared.event.ServerEvent.TheVariants as server
use Rattle.af_base.specs.declared.seen.Seen.TheVariants as seen
use Rattle.af_enough_law.proofs.CommandRounds.{CommandsTold, commands_told}
use Rattle.af_enough_law.proofs.NormalRounds.{TurnMade}
use Rattle.af_enough_law.specs.Seen.{status_by, last_status}
use Rattle.af_enough_law.proofs.TrackTurns.{attended, TrackTurned}
use Rattle.af_enough_law.proofs.Following.{noted_alike, greeted_alike, edited_alike, greeted_in, legal_greeted}
use Rattle.af_enough_law.proofs.Served.{track_turned}

pub still_both : (xs ys : List ServerEvent) → ((word : ℕ) → fold status_by word xs ≡ word) → ((word : ℕ) → fold status_by word ys ≡ word) → (word : ℕ) → fold status_by word (xs ++ ys) ≡ word
still_both xs ys a b word = fold-append status_by word xs ys ∙ ap (λ (w : ℕ). fold status_by w ys) (a word) ∙ b word

still_drops : (answer : Seen) (front word : ℕ) → fold status_by word (drops_of answer front) ≡ word
still_drops seen.Absent front word = refl
still_drops _ front word = refl

still_if : (b : Bool) (xs : List ServerEvent) → ((word : ℕ) → fold status_by word xs ≡ word) → (word : ℕ) → fold status_by word (if b then [] else xs) ≡ word
still_if true xs a word = refl
still_if false xs a word = a word

pub still_then : (b : Bool) (xs : List ServerEvent) → ((word : ℕ) → fold status_by word xs ≡ word) → (word : ℕ) → fold status_by word (if b then xs else []) ≡ word
still_then true xs a word = a word
still_then false xs a word = refl

still_look : (s : Listed) (look : CommandLook) (front : ℕ) (word : ℕ) → fold status_by word (command_events s look front) ≡ word
still_look s look front = still_both (if is_some (kept s).shut then [] else look_events look.seen look.flush look.rear front) (takes_command look)
    (still_if (is_some (kept s).shut) (look_events look.seen look.flush look.rear front) (λ word. still_drops look.seen front word)) (still_then (shows_command look.seen) (server.Take 2 ∷ []) (λ word. refl))

pub still_looks : (looks : List CommandLook) (fronts : List ℕ) (s : Listed) (word : ℕ) → fold status_by word (all_command_events s looks fronts) ≡ word
still_looks [] [] s word = refl
still_looks [] (front ∷ fronts) s word = refl
still_looks (look ∷ looks) [] s word = refl
still_looks (look ∷ looks) (front ∷ fronts) s word = let now : List ServerEvent = command_events s look front in
    still_both now (all_command_events (did s now) looks fronts) (still_look s look front) (still_looks looks fronts (did s now)) word

-- a word that is stored if it is new is the last one then
pub stored_last : (last word : ℕ) → fold status_by last (status_events (stored_over last word)) ≡ word
stored_last last word = by_equal (word == last) refl
  where
    by_equal : (b : Bool) → (word == last) ≡ b → fold status_by last (status_events (if b then None else Some word)) ≡ word
    by_equal true e = sym (eqb-true word last e)
    by_equal false e = refl

-- after a round the last status of a command block is the one before, or the one that the turn stored
pub status_told : (s : Session) (run : Run) (round : RoundSeen) (e : Turn) (i : ℕ) (before after : BlockTold) → CommandsTold s run round e i before after → e.ended ≡ false → (seen : TrackSeen) → seen ≡ track_in e i
    → last_status (server_list after) ≡ fold status_by (last_status (server_list before)) (status_events seen.status)
status_told s run round e i before after told runs seen is =
    let c : Setup = setup_of s in
    let o : Outside = outside_of c (found_in s run round e) e in
    let looks : List ServerEvent = all_command_events (o.commands i) (track_in e i).looks (o.command_fronts i) in
    let flags : List ServerEvent = invalid (learnt o) (track_in e i) (tracks_at c (learnt o) run.normal e i) i in
    let status : List ServerEvent = status_events (track_in e i).status in
    let word : ℕ = last_status (server_list before) in
    let list : List ServerEvent = command_list c o e (tracks_at c (learnt o) run.normal e i) i in
    let list_is : list ≡ (looks ++ flags) ++ status = ap (λ (b : Bool). if b then [] else command_events_of c o (track_in e i) (tracks_at c (learnt o) run.normal e i) i) runs in
    ap last_status told.server ∙ fold-append status_by 0 (server_list before) (list ++ server.Learn told.count ∷ [])
    ∙ fold-append status_by word list (server.Learn told.count ∷ [])
    ∙ ap (fold status_by word) list_is ∙ fold-append status_by word (looks ++ flags) status
    ∙ ap (λ (w : ℕ). fold status_by w status) (still_both looks flags (still_looks (track_in e i).looks (o.command_fronts i) (o.commands i)) (still_then _ (server.SetFlags 4 ∷ []) (λ w. refl)) word)
    ∙ ap (λ (x : TrackSeen). fold status_by word (status_events x.status)) (sym is)

-- ## The track's own word

either_status : (b : Bool) (s t : TrackKept) (w : ℕ) → s.status ≡ w → t.status ≡ w → (if b then s else t).status ≡ w
either_status true s t w e f = e
either_status false s t w e f = f

ready_status : (k : Learnt) (i : ℕ) (s : TrackKept) → (ready k i s).status ≡ s.status
unfolding settled_at
ready_status k i s = let r : TrackKept = noted (slot_reported k s) s in
    let same : r.status ≡ s.status = (noted_alike (slot_reported k s) s).status in
    either_status (is_reached (heard k i s).flush_seen r.awaits) (record r { awaits = None; settled = r.settled + 1 }) r s.status same same

attended_status : (given : Option ℕ) (k : Learnt) (i : ℕ) (seen : TrackSeen) (s : TrackKept) (b : Bool) → s.life.ended ≡ b → MatchBool b (seen ≡ nothing_seen) (IsServed given (heard k i s) seen (ready k i s))
    → fold status_by s.status (status_events seen.status) ≡ (if b then s else after_part given (heard k i s) seen.looks (ready k i s)).status
unfolding after_part
attended_status given k i seen s true e none = ap (λ (x : TrackSeen). fold status_by s.status (status_events x.status)) none
attended_status given k i seen s false e served =
    let due : ℕ = status_due given (heard k i s) seen.looks (ready k i s) in
    ap (λ (o : Option ℕ). fold status_by s.status (status_events o)) (served.status ∙ ap (λ (w : ℕ). stored_over w due) (ready_status k i s)) ∙ stored_last s.status due

-- A legal turn stores the status word of each track that it leaves
pub status_round : (s : Session) (marks : Marks) (run : Run) (round : RoundSeen) (t : TurnMade s marks run round) (i : ℕ) → i < length run.tracks → i < length run.normal.tracks → t.turn.ended ≡ false
    → last_status (server_list (told_at run i).commands) ≡ (track_at run.normal.tracks i).status
    → last_status (server_list (told_at (met_after s run round) i).commands) ≡ (track_at (after_round s run round).normal.tracks i).status
status_round s marks run round t i low there runs is =
    let c : Setup = setup_of s in
    let o : Outside = t.by.outside in
    let k : Learnt = learnt o in
    let m : NormalKept = run.normal in
    let e : Turn = t.turn in
    let turned : TrackTurned c k m e i = track_turned c k m e i there runs in
    let g : TrackKept = greeted_in m e i in
    let at : TrackKept = attended turned.given k i (track_in e i).looks g in
    let first : g.status ≡ (track_at m.tracks i).status = (greeted_alike e.ack m.last (track_at m.tracks i)).status in
    let legal = legal_greeted c o m e i there (t.by.legal.goes_on runs) turned in
    let word : fold status_by g.status (status_events (track_in e i).status) ≡ at.status = attended_status turned.given k i (track_in e i) g g.life.ended refl legal in
    let last : (track_at (turn_after c k m e).tracks i).status ≡ at.status = ap (λ (x : TrackKept). x.status) turned.after ∙ (edited_alike (k.own i) at turned.edited turned.edit).status in
    status_told s run round e i (told_at run i).commands (told_at (met_after s run round) i).commands (commands_told s marks run round t i low) runs (track_in e i) refl
    ∙ ap (λ (w : ℕ). fold status_by w (status_events (track_in e i).status)) (is ∙ sym first) ∙ word ∙ sym last ∙ ap (λ (n : NormalKept). (track_at n.tracks i).status) (sym t.after)
