-- A legal round after which the normal mixer goes on leaves the client of a track that plays through on its way.
use Rattle.std.proofs.Common.{◌≡◌, ℕ, ◌&&◌, ◌||◌, ◌<◌, Bool, true, false, true≢false, List, [], ◌∷◌, ◌++◌, length, refl, sym, ap, ◌∙◌, arith, if◌then◌else◌}
use Rattle.af_enough_law.proofs.Common.{Client, ClientEvent, ClientKept, Learnt, Marks, NormalKept, RoundSeen, Run, Session, Setup, Shape, Track, TrackTold, Turn, after_ack, after_calls, after_edits, after_push, after_round, after_takes, after_tracks, begun, calls_in, client_begins, client_keeps, client_kept, each_track, edited_to, ends, fold-append, commands_exit, learnt, met_after, mutated, next_command, pipe_size, setup_of, sides_of, told_at, turn_after, with_ends}
use Rattle.af_base.specs.declared.event.ClientEvent.TheVariants as client
use Rattle.af_enough_law.proofs.Basics.{ack_ended, edits_ended, ordered_ended, push_ended}
use Rattle.af_enough_law.proofs.NormalRounds.{TurnMade}
use Rattle.af_enough_law.proofs.Playing.{position}
use Rattle.af_enough_law.proofs.RunTracks.{played_client, met_track}
use Rattle.af_enough_law.proofs.Turning.{Stands, on, gone_for_good}

-- ## The client after a round

still_if : (b : Bool) (run : Run) → b ≡ false → (if b then each_track (λ track t. record t { client = ends t.client }) run else run) ≡ run
still_if true run e = absurd (true≢false e)
still_if false run e = refl

ends_normal : (b : Bool) (run : Run) → (if b then each_track (λ track t. record t { client = ends t.client }) run else run).normal ≡ run.normal
ends_normal true run = refl
ends_normal false run = refl

-- if the normal mixer goes on, no client is ended
still_met : (run : Run) → (with_ends run).normal.ended ≡ false → with_ends run ≡ run
unfolding with_ends
still_met run going = still_if run.normal.ended run (ap (λ m. m.ended) (sym (ends_normal run.normal.ended run)) ∙ going)

pub client_after : (s : Session) (run : Run) (round : RoundSeen) (i : ℕ) → i < length run.tracks → (after_round s run round).normal.ended ≡ false → (told_at (after_round s run round) i).client ≡ (after_calls (sides_of (told_at run i)) (calls_in round i)).client
client_after s run round i low going =
    ap (λ (r : Run). (told_at r i).client) (still_met (met_after s run round) going) ∙ ap (λ (t : TrackTold). t.client) (met_track s run round i low) ∙ played_client s run round i (told_at run i)

edits_going : (c : Setup) (k : Learnt) (e : Turn) (m : NormalKept) → (after_edits c k e m).ended ≡ m.ended
unfolding mutated
edits_going c k e m = let x : NormalKept = after_tracks c k e (after_ack e.ack m) in
    ordered_ended (next_command (commands_exit (edited_to c k x (length x.tracks)).draft) (edited_to c k x (length x.tracks)).tracks e.room (pipe_size c)) (edited_to c k x (length x.tracks))
    ∙ edits_ended c k x (length x.tracks) ∙ ack_ended e.ack m

turn_going : (c : Setup) (k : Learnt) (m : NormalKept) (e : Turn) → e.ended ≡ false → m.ended ≡ false → (turn_after c k m e).ended ≡ false
unfolding turn_after
turn_going c k m e runs going =
    ap (λ (b : Bool). (if b then record m { ended = true } else after_takes c e.mixes (after_push e.push (after_edits c k e m))).ended) runs ∙ push_ended e.push (after_edits c k e m) ∙ edits_going c k e m ∙ going

or_left : (a b : Bool) → (a || b) ≡ false → a ≡ false
or_left true b e = absurd (true≢false e)
or_left false b e = refl

-- the normal mixer goes on after a round whose turn did
pub mixer_goes : (s : Session) (marks : Marks) (run : Run) (round : RoundSeen) (t : TurnMade s marks run round) → t.turn.ended ≡ false → (after_round s run round).normal.ended ≡ false
mixer_goes s marks run round t runs = ap (λ (m : NormalKept). m.ended) t.after
    ∙ turn_going (setup_of s) (learnt t.by.outside) run.normal t.turn runs (or_left run.normal.ended (commands_exit run.normal.last && t.turn.ack) (sym t.by.legal.ends ∙ runs))

-- ## What the client has done

pub learn_position : (k : Shape) (events : List ClientEvent) (n : ℕ) → (client_kept k.frames k.base (events ++ client.Learn n ∷ [])).position ≡ (client_kept k.frames k.base events).position
learn_position k events n = ap (λ (x : ClientKept). x.position) (fold-append (client_keeps k.frames) (client_begins k.base) events (client.Learn n ∷ []))

-- a track of the same client, position and words is as far on its way
pub carried : (t u : Track) (most total : ℕ) → u.client ≡ t.client → position u.stream ≡ position t.stream → u.commands.released ≡ t.commands.released → Stands t most total → Stands u most total
carried t u most total same place words (on due ops m is left) = on due ops m (ap begun same ∙ is) (record {
  doing = left.doing;
  few = left.few;
  sum = (let a = left.sum in let b = place in omega arith);
  sent = left.sent;
  words = words ∙ left.words;
  codes = left.codes;
})
carried t u most total same place words (gone_for_good ended sent told codes) = gone_for_good (ap (λ (c : Client). c.ended) same ∙ ended) sent (words ∙ told) codes
