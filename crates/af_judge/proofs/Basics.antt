-- Basic lemmas that several files here, and of the crates above, cite.
use Rattle.std.proofs.Common.{Bool, List, None, Option, Some, [], ap, append-nil, append_assoc, arith, cond, false, if◌then◌else◌, is_some, length, refl, suc, sym, true, true≢false, zero, ℕ, ◌++◌, ◌+◌, ◌<◌, ◌==◌, ◌^◌, ◌||◌, ◌∙◌, ◌∷◌, ◌≡◌}
use Rattle.af_judge.proofs.Common.{BlockTold, Busy, Clean, Client, ClientEvent, HandEvent, Holder, Home, IsLegal, Known, Lent, Life, May, Moment, NormalKept, Op, Push, Pushed, Returning, RoundSeen, Run, ServerEvent, Session, TakeSeen, TrackKept, TrackPoint, TrackTold, TracksRise, Turn, Want, after_client, after_hand, after_push, after_server, ahead, begins, behind, by_client, by_hand, by_report, by_server, client_of, drops_none, changed_from, each_track, ended, ends, get_or-map-range_with_len, get_or_default, is_home, is_lent, length-map-range_with_len, loaded, met, nat_tests, new_run, no, no_track, number_of, server_of, slice_index_or, stream_met, takes_from, takes_part, tally, told_at, track_count, track_met, unwrap_or, wants_of, with_calls, with_ends, with_load, wrapped}
use Rattle.af_base.specs.declared.event.ClientEvent.TheVariants as client
use Rattle.af_base.specs.declared.event.HandEvent.TheVariants as hand
use Rattle.af_base.specs.declared.event.ServerEvent.TheVariants as server
use Rattle.af_judge.specs.NormalTold.{IsTrackAt}
use Rattle.af_judge.specs.declared.track_judge.TrackJudge.{TrackJudge}
use Rattle.af_runs.specs.Runs.{new_told_track}

pub ahead_behind : (count p : ℕ) → count < 2 ^ 32 → ahead (behind p count) p ≡ count
ahead_behind count p small = omega (arith, small)

pub ahead_itself : (p : ℕ) → ahead p p ≡ 0
ahead_itself p = omega arith

pub ahead_word : (f p : ℕ) → ahead f p < 2 ^ 32
ahead_word f p = omega arith

pub ahead_wrapped : (f p : ℕ) → ahead (wrapped f) p ≡ ahead f p
ahead_wrapped f p = omega arith

pub begins_ended : (c : Client) (wants : List Want) (ops : List Op) → (begins c wants ops).ended ≡ c.ended
begins_ended c (w ∷ wants) ops = refl
begins_ended c [] [] = refl
begins_ended c [] (o ∷ ops) = begins_ended c (wants_of c.mode o) ops

pub calls_pipe : (round : RoundSeen) (run : Run) → (with_calls round run).pipe ≡ run.pipe
unfolding with_calls
calls_pipe round run = refl

pub calls_states : (round : RoundSeen) (run : Run) → (with_calls round run).states ≡ run.states
unfolding with_calls
calls_states round run = refl

pub client_append : (late early : List Moment) → client_of (late ++ early) ≡ client_of early ++ client_of late
client_append [] early = sym (append-nil (client_of early))
client_append (by_client e ∷ late) early = ap (λ z. z ++ e ∷ []) (client_append late early) ∙ append_assoc (client_of early) (client_of late) (e ∷ [])
client_append (by_server e ∷ late) early = client_append late early
client_append (by_hand e ∷ late) early = client_append late early

pub each_at : (change : ℕ → TrackTold → TrackTold) (m : ℕ) (ts : List TrackTold) (n j : ℕ) (d : TrackTold) → n < length ts → m + n ≡ j → slice_index_or (changed_from change m ts) n d ≡ change j (slice_index_or ts n d)
each_at change m [] n j d lt is = absurd (let z : ⊥ = omega (arith, lt) in z)
each_at change m (t ∷ ts) zero j d lt is = ap (λ (k : ℕ). change k t) (let e : m ≡ j = omega (arith, is) in e)
each_at change m (t ∷ ts) (suc n) j d lt is = each_at change (m + 1) ts n j d (omega (arith, lt)) (omega (arith, is))

pub each_long : (change : ℕ → TrackTold → TrackTold) (m : ℕ) (ts : List TrackTold) → length (changed_from change m ts) ≡ length ts
each_long change m [] = refl
each_long change m (t ∷ ts) = ap suc (each_long change (m + 1) ts)

-- the ends leave it open who takes part
pub ends_part : (s : Session) (run : Run) (n : ℕ) → takes_part s (with_ends run) n ≡ takes_part s run n
unfolding with_ends
ends_part s run n = by_end run.normal.ended
  where
    by_end : (b : Bool) → takes_part s (if b then each_track (λ track t. record t { client = ends t.client }) run else run) n ≡ takes_part s run n
    by_end true = refl
    by_end false = refl

pub ends_pipe : (run : Run) → (with_ends run).pipe ≡ run.pipe
unfolding with_ends
ends_pipe run = by run.normal.ended
  where
    by : (b : Bool) → (if b then each_track (λ track t. record t { client = ends t.client }) run else run).pipe ≡ run.pipe
    by true = refl
    by false = refl

pub ends_states : (run : Run) → (with_ends run).states ≡ run.states
unfolding with_ends
ends_states run = by_end run.normal.ended
  where
    by_end : (b : Bool) → (if b then each_track (λ track t. record t { client = ends t.client }) run else run).states ≡ run.states
    by_end true = refl
    by_end false = refl

pub hand_puts : (p : TrackPoint) (e : HandEvent) → (after_hand p e).released ≡ p.released
hand_puts p (hand.SetFlags bits) = refl
hand_puts p (hand.Met n) = refl

pub if_true : (b : Bool) (s t : TrackKept) → b ≡ true → (if b then s else t) ≡ s
if_true true s t is = refl
if_true false s t is = no is

-- each event of a legal order is legal where it stands
pub legal_cut : (p : TrackPoint) (late : List Moment) (m : Moment) (early : List Moment) → IsLegal p (late ++ m ∷ early) → May p early m × IsLegal p early
legal_cut p [] m early l = l
legal_cut p (x ∷ late) m early l = legal_cut p late m early l.1

pub loaded_pipe : (o : Option Turn) (run : Run) → (loaded o run).pipe ≡ run.pipe
unfolding with_load
loaded_pipe None run = refl
loaded_pipe (Some e) run = refl

pub loaded_states : (o : Option Turn) (run : Run) → (loaded o run).states ≡ run.states
unfolding with_load
loaded_states None run = refl
loaded_states (Some e) run = refl

pub met_many : (s : Session) (run : Run) → length (met s run).tracks ≡ length run.tracks
unfolding met
met_many s run = each_long (track_met s run) 0 run.tracks

pub met_normal : (s : Session) (run : Run) → (met s run).normal ≡ run.normal
unfolding met
met_normal s run = refl

pub met_states : (s : Session) (run : Run) → (met s run).states ≡ run.states
unfolding met
met_states s run = refl

-- the track of a number in a new run
pub new_at : (s : Session) (i : ℕ) → i < track_count s → told_at (new_run s) i ≡ new_told_track s i
new_at s i lt = get_or-map-range_with_len (new_told_track s) 0 (track_count s) i i _ lt (omega arith)

pub new_long : (s : Session) → length (new_run s).tracks ≡ track_count s
new_long s = length-map-range_with_len (new_told_track s) 0 (track_count s)

pub not_lent : (h : Holder) → is_home h ≡ true → is_lent h ≡ false
not_lent Home e = refl
not_lent Lent e = absurd (true≢false (sym e))
not_lent Returning e = refl

-- no take is of a track whose number is below those of all takes
pub nothing_from : (low : ℕ) (takes : List TakeSeen) (i : ℕ) → TracksRise low takes → i < low → takes_from takes i ≡ []
nothing_from low [] i rise lt = refl
nothing_from low (t ∷ takes) i rise lt =
    let r = rise.0 in
    let other : (t.track == i) ≡ false = grind (arith, nat_tests, r, lt) in
    ap (λ (b : Bool). cond b (t ∷ takes_from takes i) (takes_from takes i)) other ∙ nothing_from (t.track + 1) takes i rise.1 (omega (arith, r, lt))

pub or_left : (a b : Bool) → a ≡ true → (a || b) ≡ true
or_left true b e = refl
or_left false b e = no e

-- what a push leaves as it is
pub push_draft : (push : Push) (x : NormalKept) → (after_push push x).draft ≡ x.draft
push_draft (Pushed number) x = refl
push_draft Clean x = refl
push_draft (Busy seen expected) x = refl

pub push_tracks : (push : Push) (x : NormalKept) → (after_push push x).tracks ≡ x.tracks
push_tracks (Pushed number) x = refl
push_tracks Clean x = refl
push_tracks (Busy seen expected) x = refl

-- a report that hears that its stream is shut ends the life
pub report_ends : (known : Known) (l : Life) → known.shut ≡ true → (by_report known l).ended ≡ true
unfolding by_report
report_ends known l shut = ap (λ (b : Bool). (by_report (record known { shut = b }) l).ended) shut

-- a list has one track at a place
pub same_track : (tracks : List TrackJudge) (i : ℕ) (t u : TrackJudge) → IsTrackAt tracks i t → IsTrackAt tracks i u → t ≡ u
same_track tracks i t u a b = a.1 ∙ (get_or_default tracks i t u a.0 ∙ sym b.1)

pub server_append : (late early : List Moment) → server_of (late ++ early) ≡ server_of early ++ server_of late
server_append [] early = sym (append-nil (server_of early))
server_append (by_client e ∷ late) early = server_append late early
server_append (by_server e ∷ late) early = ap (λ z. z ++ e ∷ []) (server_append late early) ∙ append_assoc (server_of early) (server_of late) (e ∷ [])
server_append (by_hand e ∷ late) early = server_append late early

-- a server releases nothing
pub server_put : (p : TrackPoint) (e : ServerEvent) → (after_server p e).released ≡ p.released
server_put p (server.SawFlush flush) = refl
server_put p (server.SawRear rear) = refl
server_put p (server.Drop to) = refl
server_put p (server.Take count) = refl
server_put p (server.Tally missing) = refl
server_put p (server.SetFlags bits) = refl
server_put p (server.SetStatus word) = refl
server_put p e = refl

pub shape_met : (there hands : Bool) (b : BlockTold) → (stream_met there hands b).shape ≡ b.shape
shape_met true true b = refl
shape_met true false b = refl
shape_met false true b = refl
shape_met false false b = refl

pub some_is : (v w : Want) → Some v ≡ Some w → v ≡ w
some_is v w e = ap (λ (o : Option Want). unwrap_or o v) e

pub some_number : (o : Option ℕ) → is_some o ≡ true → o ≡ Some (number_of o)
some_number None e = no e
some_number (Some k) e = refl

pub status_client : (p : TrackPoint) (e : ClientEvent) → (after_client p e).status ≡ p.status
status_client p (client.Release count) = refl
status_client p _ = refl

pub status_hand : (p : TrackPoint) (e : HandEvent) → (after_hand p e).status ≡ p.status
status_hand p (hand.SetFlags bits) = refl
status_hand p (hand.Met n) = refl

pub tally_none : (missing : ℕ) → drops_none (tally missing) ≡ true
tally_none missing = by (missing == 0)
  where
    by : (b : Bool) → drops_none (if b then [] else server.Tally missing ∷ server.SetFlags 1 ∷ []) ≡ true
    by true = refl
    by false = refl

-- there is a track at each place
pub there_is : (ts : List TrackJudge) (i : ℕ) (t : TrackJudge) → i < length ts → IsTrackAt ts i (slice_index_or ts i t)
there_is ts i t lt = (lt, get_or_default ts i t (slice_index_or ts i t) lt)

-- the track of a number after each was changed
pub told_each : (change : ℕ → TrackTold → TrackTold) (run : Run) (n : ℕ) → n < length run.tracks → told_at (each_track change run) n ≡ change n (told_at run n)
told_each change run n lt = each_at change 0 run.tracks n n no_track lt (omega arith)
