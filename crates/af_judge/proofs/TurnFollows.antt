-- What is kept of the tracks and of the normal mixer of a run follows a turn of that mixer, and the turn is right exactly if it is legal.
use Rattle.std.proofs.Common.{◌≡◌, ◌↔◌, ℕ, ◌+◌, ◌^◌, ◌<◌, ◌≤◌, Bool, true, false, if◌then◌else◌, fold, refl, sym, ap, ◌∙◌, subst, List, [], ◌∷◌, ◌++◌, length, append-nil, inl, inr, arith}
use Rattle.af_judge.proofs.Common.{BlockTold, ClientEvent, IsOpenTurn, IsTrue, IsTurn, Learnt, LegalTurnBy, Marks, NormalKept, Outside, Run, Session, Setup, Side, TakeSeen, TrackKept, TrackTold, Turn, TurnFound, after_ack, after_edits, asked, cases_lt, command_list, commands_turned, changed_from, ended_turn, get_or-eq_default, get_or_default, hand_does, heard, is_pushed, known_by, learnt, learnt_of, length-map, listed, no_track, nothing_heard, outside_of, setup_of, client_side, sides_of, slice_index_or, spec_of, spec_setting, stream_list, stream_turned, takes_from, told_at, track_at, track_in, tracks_at, turn_after, turned_track, with_turn}
use Rattle.af_judge.proofs.Basics.{each_at, each_long}
use Rattle.af_life.specs.TurnEvents.{hand_events_of}
use Rattle.af_judge.specs.declared.track_judge.TrackJudge.{TrackJudge}
use Rattle.af_judge.specs.Blocks.{BlockJudged, IsBlockOf}
use Rattle.af_judge.specs.Judging.{ClientJudged, IsKeptOf}
use Rattle.af_judge.specs.NormalJudged.{Follows, NormalJudged}
use Rattle.af_judge.specs.NormalTold.{IsRight, IsTold, IsTrackAt, all_known, take_told, track_told}
use Rattle.af_judge.proofs.Words.{Finds}
use Rattle.af_judge.specs.RunTold.{IsServedBlock, IsServedTrack, KeepsTracks, NormalOf}
use Rattle.af_judge.specs.Tracks.{IsTrackOf}
use Rattle.af_judge.specs.TurnJudged.{TurnJudged}
use Rattle.af_judge.proofs.Words.{FoundIn}
use Rattle.af_judge.proofs.BlocksTold.{hand-client, server-client}
use Rattle.af_judge.proofs.NormalKept.{rests_so}
use Rattle.af_judge.proofs.TurnLegal.{element, learnt_same, opens, right_legal}
use Rattle.af_judge.proofs.TurnServed.{commands_after, commands_mark, commands_served, stream_after, stream_mark, stream_served}
use Rattle.af_judge.proofs.TurnedTracks.{commands_so, mixer_follows, stream_so, takes_client, takes_commands, takes_stream}

-- the track of a number is one
one_track : (tracks : List TrackJudge) (n : ℕ) (t u : TrackJudge) → IsTrackAt tracks n t → IsTrackAt tracks n u → u ≡ t
one_track tracks n t u at also = also.1 ∙ get_or_default tracks n u t also.0 ∙ sym at.1

-- ## A client's side stays as it is

told_side : List ClientEvent → BlockTold → Side
told_side events b = record { shape = b.shape; events = events; released = b.released }

module _ (c : Setup) (o : Outside) (m : NormalKept) (e : Turn) (n : ℕ) where
  abbrev before_it : List TrackKept
  before_it = tracks_at c (learnt o) m e n

  stream_side : (b : BlockTold) → client_side (stream_turned c o m e n b) ≡ client_side b
  unfolding told_side
  stream_side b = ap (λ (es : List ClientEvent). told_side es b) (server-client (hand_does (hand_events_of e n) b).told (stream_list c o e before_it n) ∙ hand-client b.told (hand_events_of e n))

  commands_side : (b : BlockTold) → client_side (commands_turned c o m e n b) ≡ client_side b
  unfolding told_side
  commands_side b = ap (λ (es : List ClientEvent). told_side es b) (server-client b.told (command_list c o e before_it n))

  sides_turned : (t : TrackTold) → sides_of (turned_track c o m e n t) ≡ sides_of t
  sides_turned t = λ i. record { file = t.file; client = t.client; stream = stream_side t.stream i; commands = commands_side t.commands i }

-- a turn that has ended changes no track
turned_ended : (c : Setup) (o : Outside) (m : NormalKept) (n : ℕ) (t : TrackTold) → turned_track c o m ended_turn n t ≡ t
turned_ended c o m n t = λ i. record t { stream = record t.stream { taken = append-nil t.stream.taken i }; commands = record t.commands { taken = append-nil t.commands.taken i } }

each_same : (change : ℕ → TrackTold → TrackTold) → ((n : ℕ) (t : TrackTold) → change n t ≡ t) → (m : ℕ) (ts : List TrackTold) → changed_from change m ts ≡ ts
each_same change same m [] = refl
each_same change same m (t ∷ ts) = λ i. same m t i ∷ each_same change same (m + 1) ts i

-- ## What the turn finds

module _ (s : Session) (marks : Marks) (W : ℕ → Type 0) (run : Run) (f : TurnFound) (tracks : List TrackJudge) (keeps : KeepsTracks s marks W tracks run) (is : FoundIn f run) where
  told_beyond : (i : ℕ) → length tracks ≤ i → told_at run i ≡ no_track
  told_beyond i le = get_or-eq_default run.tracks no_track (let m = keeps.many in omega (arith, m, le))

  pub finds : Finds marks f tracks
  finds = record {
    streams = (λ i t at. let h = (keeps.served i t at).stream in ap listed (is.streams i) ∙ sym (λ j. record { shape = h.shape j; events = h.server j }));
    commands = (λ i t at. let h = (keeps.served i t at).commands in ap listed (is.commands i) ∙ sym (λ j. record { shape = h.shape j; events = h.server j }));
    lawful_streams = (λ i t at. (keeps.served i t at).lawful_stream);
    lawful_commands = (λ i t at. (keeps.served i t at).lawful_commands);
    beyond = (λ i le. ap (λ (b : BlockTold). known_by (listed b)) (is.streams i ∙ ap (λ (t : TrackTold). t.stream) (told_beyond i le)) ∙ none_known);
  }
    where
      none_known : known_by (listed no_track.stream) ≡ nothing_heard
      none_known = refl

  stream_wraps : (i : ℕ) → (f.streams i).shape.wrap ≤ 2 ^ 31
  stream_wraps i = subst (λ (b : BlockTold). b.shape.wrap ≤ 2 ^ 31) (sym (is.streams i)) (elim (cases_lt i (length tracks)) as (λ c. (told_at run i).stream.shape.wrap ≤ 2 ^ 31) [
    | inl lt ↦ let x = element tracks i lt in (keeps.served i x.track x.at).wrap_stream
    | inr le ↦ subst (λ (t : TrackTold). t.stream.shape.wrap ≤ 2 ^ 31) (sym (told_beyond i le)) (omega arith)
  ])

  command_wraps : (i : ℕ) → (f.commands i).shape.wrap ≤ 2 ^ 31
  command_wraps i = subst (λ (b : BlockTold). b.shape.wrap ≤ 2 ^ 31) (sym (is.commands i)) (elim (cases_lt i (length tracks)) as (λ c. (told_at run i).commands.shape.wrap ≤ 2 ^ 31) [
    | inl lt ↦ let x = element tracks i lt in (keeps.served i x.track x.at).wrap_commands
    | inr le ↦ subst (λ (t : TrackTold). t.commands.shape.wrap ≤ 2 ^ 31) (sym (told_beyond i le)) (omega arith)
  ])

  module _ (e : Turn) (j : NormalJudged) (normal : NormalOf s run j) (form : IsTurn (length tracks) e) where
    setup_is : j.plain.setup ≡ setup_of s
    setup_is = sym normal.judged.setup ∙ normal.setup

    -- a judge keeps as many tracks as the mixer has
    pub many : length tracks ≡ length j.plain.kept.tracks
    many = keeps.all ∙ sym (normal.judged.small.whole ∙ ap (λ (c : Setup). length c.settings) setup_is ∙ length-map s.script.tracks spec_setting)

    -- ## Whether the turn is right

    pub turn_right : (right : Bool) → IsTrue right ↔ IsRight j.plain.setup f.report tracks j.plain.kept e → IsTrue right ↔ LegalTurnBy (setup_of s) marks f run.normal e
    turn_right right judged =
        let exact = right_legal (setup_of s) marks f tracks run.normal e finds (many ∙ ap (λ (m : NormalKept). length m.tracks) normal.kept) form stream_wraps command_wraps in
        let here : IsTrue right ↔ IsRight (setup_of s) f.report tracks run.normal e = subst (λ (p : Setup × NormalKept). IsTrue right ↔ IsRight p.0 f.report tracks p.1 e) (λ i. (setup_is i, normal.kept i)) judged in
        ((λ r. exact.0 (here.0 r)), (λ l. here.1 (exact.1 l)))

    module _ (after : List TrackJudge) (next : NormalJudged) (judged : TurnJudged f.report e tracks after j next) where
      abbrev c : Setup
      c = setup_of s

      abbrev m : NormalKept
      m = run.normal

      abbrev o : Outside
      o = outside_of (setup_of s) f e

      abbrev now : Run
      now = with_turn s f e run

      tracks_now : (with_turn s f e run).tracks ≡ changed_from (turned_track (setup_of s) (outside_of (setup_of s) f e) run.normal e) 0 run.tracks
      unfolding with_turn
      tracks_now = refl

      long_now : length (with_turn s f e run).tracks ≡ length run.tracks
      long_now = ap (λ (ts : List TrackTold). length ts) tracks_now ∙ each_long (turned_track c o m e) 0 run.tracks

      told_now : (n : ℕ) → n < length tracks → told_at (with_turn s f e run) n ≡ turned_track (setup_of s) (outside_of (setup_of s) f e) run.normal e n (told_at run n)
      told_now n lt = ap (λ (ts : List TrackTold). slice_index_or ts n no_track) tracks_now ∙ each_at (turned_track c o m e) 0 run.tracks n n no_track (let l = keeps.many in omega (arith, l, lt)) (omega arith)

      -- ## A turn that went on

      module _ (open_is : e.ended ≡ false) where
        open_form : IsOpenTurn (length tracks) e
        open_form = opens (setup_of s) marks f tracks m e finds (many ∙ ap (λ (m : NormalKept). length m.tracks) normal.kept) form open_is

        told_so : IsTold (setup_of s) (learnt (outside_of (setup_of s) f e)) run.normal e tracks after
        told_so = subst (λ (k : Learnt). IsTold c k m e tracks after) (sym (learnt_same c marks f tracks m e finds (many ∙ ap (λ (x : NormalKept). length x.tracks) normal.kept)))
            (subst (λ (p : Setup × NormalKept). IsTold p.0 (learnt_of f.report (all_known tracks)) p.1 e tracks after) (λ i. (setup_is i, normal.kept i)) (judged.told open_is))

        -- a track before and after
        record Turned (n : ℕ) (t : TrackJudge) : Type 0 where
          before : TrackJudge
          at : IsTrackAt tracks n before
          client : t.client ≡ before.client
          stream : t.stream ≡ stream_after c f m e open_is n before.stream
          commands : t.commands ≡ commands_after c f m e open_is n before.commands

        turned_so : (n : ℕ) (t : TrackJudge) → IsTrackAt after n t → Turned n t
        turned_so n t at =
            let x = element tracks n (let w = at.0 in let l = judged.same.2 in omega (arith, w, l)) in
            let found : TrackKept = track_at (after_ack e.ack m).tracks n in
            let k : Learnt = learnt o in
            let v : TrackJudge = track_told found (heard k n found) (track_in e n) x.track in
            let takes : List TakeSeen = takes_from e.mixes n in
            let u : TrackJudge = fold (λ (t : TrackJudge) (take : TakeSeen). take_told (asked c) take t) v takes in
            let there : IsTrackAt after n u = told_so.taken n v (told_so.told.told n x.track x.at.0 x.at) in
            subst (Turned n) (one_track after n t u at there) (record {
              before = x.track;
              at = x.at;
              client = takes_client (asked c) takes v;
              stream = takes_stream (asked c) takes v;
              commands = takes_commands (asked c) takes v;
            })

        served_now : (n : ℕ) (t : TrackJudge) → IsTrackAt after n t → IsServedTrack marks n t (told_at (with_turn s f e run) n)
        served_now n t at =
            let x = turned_so n t at in
            let h = keeps.served n x.before x.at in
            let b : TrackTold = told_at run n in
            subst (IsServedTrack marks n t) (sym (told_now n x.at.0)) (record {
              stream = subst (λ (y : BlockTold). IsServedBlock t.stream (stream_turned c o m e n y)) (is.streams n)
                  (subst (λ (y : BlockJudged). IsServedBlock y (stream_turned c o m e n (f.streams n))) (sym x.stream)
                  (stream_served c f m e open_is n x.before (subst (IsServedBlock x.before.stream) (sym (is.streams n)) h.stream) (length tracks) open_form));
              commands = subst (λ (y : BlockTold). IsServedBlock t.commands (commands_turned c o m e n y)) (is.commands n)
                  (subst (λ (y : BlockJudged). IsServedBlock y (commands_turned c o m e n (f.commands n))) (sym x.commands)
                  (commands_served c f m e open_is n x.before (subst (IsServedBlock x.before.commands) (sym (is.commands n)) h.commands)));
              lawful_stream = h.lawful_stream ∙ sym (ap (λ (y : BlockJudged). y.lawful) x.stream ∙ stream_mark c f m e open_is n x.before.stream);
              lawful_commands = h.lawful_commands ∙ sym (ap (λ (y : BlockJudged). y.lawful) x.commands ∙ commands_mark c f m e open_is n x.before.commands);
              wrap_stream = h.wrap_stream;
              wrap_commands = h.wrap_commands;
            })

        whole_now : (n : ℕ) (t : TrackJudge) → IsTrackAt after n t → W n → IsTrackOf (spec_of s n).ops t (told_at (with_turn s f e run) n)
        whole_now n t at wanted =
            let x = turned_so n t at in
            let h = keeps.whole n x.before x.at wanted in
            let b : TrackTold = told_at run n in
            subst (IsTrackOf (spec_of s n).ops t) (sym (told_now n x.at.0)) (record {
              client = subst (IsKeptOf (spec_of s n).ops t.client) (sym (sides_turned c o m e n b)) (subst (λ (y : ClientJudged). IsKeptOf (spec_of s n).ops y (sides_of b)) (sym x.client) h.client);
              stream = subst (λ (y : BlockTold). IsBlockOf t.stream (stream_turned c o m e n y)) (is.streams n)
                  (subst (λ (y : BlockJudged). IsBlockOf y (stream_turned c o m e n (f.streams n))) (sym x.stream)
                  (stream_so c f m e open_is n x.before (subst (IsBlockOf x.before.stream) (sym (is.streams n)) h.stream) (length tracks) open_form));
              commands = subst (λ (y : BlockTold). IsBlockOf t.commands (commands_turned c o m e n y)) (is.commands n)
                  (subst (λ (y : BlockJudged). IsBlockOf y (commands_turned c o m e n (f.commands n))) (sym x.commands)
                  (commands_so c f m e open_is n x.before (subst (IsBlockOf x.before.commands) (sym (is.commands n)) h.commands)));
            })

        keeps_open : KeepsTracks s marks W after (with_turn s f e run)
        keeps_open = record { many = judged.same.2 ∙ keeps.many ∙ sym long_now; all = judged.same.2 ∙ keeps.all; served = served_now; whole = whole_now }

        normal_open : NormalOf s (with_turn s f e run) next
        unfolding with_turn
        normal_open =
            let g : Follows (record j { handed = true }) (learnt (outside_of j.plain.setup f e)) e next = mixer_follows marks f e tracks (record j { handed = true }) next finds many (judged.follows open_is) in record {
              judged = judged.judged;
              setup = g.setup ∙ normal.setup;
              kept = g.kept ∙ (λ i. turn_after (setup_is i) (learnt (outside_of (setup_is i) f e)) (normal.kept i) e);
              states = g.states ∙ (λ i. normal.states i ++ (if is_pushed e.push then (after_edits (setup_is i) (learnt (outside_of (setup_is i) f e)) e (normal.kept i)).draft ∷ [] else []));
              handed = g.handed;
            }

      -- ## A turn that has ended

      module _ (ended : e ≡ ended_turn) where
        tracks_still : (with_turn s f e run).tracks ≡ run.tracks
        tracks_still = tracks_now ∙ each_same (turned_track c o m e) (λ n t. ap (λ (x : Turn). turned_track c o m x n t) ended ∙ turned_ended c o m n t) 0 run.tracks

        told_still : (n : ℕ) → told_at (with_turn s f e run) n ≡ told_at run n
        told_still n = ap (λ (ts : List TrackTold). slice_index_or ts n no_track) tracks_still

        keeps_ended : KeepsTracks s marks W after (with_turn s f e run)
        keeps_ended = subst (λ (ts : List TrackJudge). KeepsTracks s marks W ts now) (sym (judged.ends ended).1) (record {
          many = keeps.many ∙ sym long_now;
          all = keeps.all;
          served = (λ n t at. subst (IsServedTrack marks n t) (sym (told_still n)) (keeps.served n t at));
          whole = (λ n t at wanted. subst (IsTrackOf (spec_of s n).ops t) (sym (told_still n)) (keeps.whole n t at wanted));
        })

        normal_ended : NormalOf s (with_turn s f e run) next
        unfolding with_turn
        normal_ended = let g = (judged.ends ended).0 in record {
          judged = judged.judged;
          setup = g.setup ∙ normal.setup;
          kept = g.kept ∙ ap (λ (x : NormalKept). record x { ended = true }) normal.kept ∙ sym (rests_so c (learnt o) m e (ap (λ (x : Turn). x.ended) ended));
          states = g.states ∙ normal.states ∙ sym (append-nil run.states) ∙ ap (λ (x : Turn). run.states ++ (if is_pushed x.push then (after_edits c (learnt o) e m).draft ∷ [] else [])) (sym ended);
          handed = g.handed;
        }

      -- ## A turn of any kind

      pub turn_follows : KeepsTracks s marks W after (with_turn s f e run) × NormalOf s (with_turn s f e run) next
      turn_follows = by_form form
        where
          by_form : IsTurn (length tracks) e → KeepsTracks s marks W after (with_turn s f e run) × NormalOf s (with_turn s f e run) next
          by_form (inl ended) = (keeps_ended ended, normal_ended ended)
          by_form (inr went) = (keeps_open went.open_is, normal_open went.open_is)
