-- What a turn of the normal mixer does of the tracks is determined by what the command blocks tell.
use Rattle.std.proofs.Common.{◌≡◌, ℕ, zero, suc, ◌<◌, ◌≤◌, Bool, true, false, if◌then◌else◌, is_some, List, [], ◌∷◌, ◌++◌, length, Option, Some, None, refl, sym, ap, ◌∙◌, subst, arith, append-nil, append_assoc}
use Rattle.af_one_turn_run.proofs.Common.{CommandLook, HasDueLooks, IsServed, Learnt, LegalLooks, LegalTrack, Listed, MatchBool, ServerEvent, Setup, TrackKept, TrackPoint, TrackSeen, Turn, TurnFound, after, after_commands, all_command_events, are_due, client_of, command_events_of, command_list, ext_get_or, fronts_by, going, heard, invalid, lawful_front, learnt, listed, most_looks, nothing_seen, outside_of, ready, seen_at, served, served_to, server_does, slice_set, start, status_due, status_events, stored_over, took, track_at, track_in, words_taken}
use Rattle.af_base.specs.declared.event.ServerEvent.TheVariants as server
use Rattle.af_life.specs.declared.kept.Heard.{Heard}
use Rattle.af_life.specs.Obeys.{slot_for}
use Rattle.af_life.specs.Reports.{told_by_report}
use Rattle.af_one_turn_run.proofs.Seeing.{after_servers, ServerSees}
use Rattle.af_one_turn_run.proofs.Taking.{taken_by, IsTakenOf, HasFrames}
use Rattle.af_one_turn_run.proofs.Told.{IsToldLegally}
use Rattle.af_one_turn_run.proofs.LegalFronts.{server_front, server_parts}
use Rattle.af_one_turn_run.proofs.OneLooks.{AreTold, one_looks, all_told}
use Rattle.af_one_turn_run.proofs.TakenWords.{taken_parts, words_told}

-- ## One track

module _ (frames : List ℕ) (base : ℕ) (s : Listed) (p : TrackPoint) (n : ℕ) (there : HasFrames frames base p) where
  -- two lists of looks that are due and told are the same
  due_looks : (given : Option ℕ) (flush_seen : ℕ) (life : TrackKept) (looks others : List CommandLook) → HasDueLooks given flush_seen looks life → AreTold frames base s p n looks → HasDueLooks given flush_seen others life → AreTold frames base s p n others → looks ≡ others
  due_looks given flush_seen life looks others due told due_others told_others = by_wait (is_some life.awaits) due due_others
    where
      by_wait : (b : Bool) → MatchBool b (looks ≡ []) (are_due most_looks given flush_seen looks life ≡ true) → MatchBool b (others ≡ []) (are_due most_looks given flush_seen others life ≡ true) → looks ≡ others
      by_wait true none none_others = none ∙ sym none_others
      by_wait false due due_others = one_looks frames base most_looks given flush_seen life s p n looks others there due told due_others told_others

  one_served : (given : Option ℕ) (h : Heard) (life : TrackKept) (a b : TrackSeen) → IsServed given h a life → AreTold frames base s p n a.looks → IsServed given h b life → AreTold frames base s p n b.looks → a ≡ b
  one_served given h life a b is told is_b told_b =
      let looks = due_looks given h.flush_seen life a.looks b.looks is.looks told is_b.looks told_b in
      (λ i. let t : TrackSeen = record { looks = a.looks; status = is.status i; disabled = is.disabled i } in t)
      ∙ (λ i. let t : TrackSeen = record { looks = looks i; status = stored_over life.status (status_due given h (looks i) life); disabled = told_by_report h.known (after_commands given h (looks i) life).life } in t)
      ∙ (λ i. let t : TrackSeen = record { looks = b.looks; status = sym is_b.status i; disabled = sym is_b.disabled i } in t)

  pub one_track : (c : Setup) (k : Learnt) (tracks : List TrackKept) (i : ℕ) (a b : TrackSeen) → LegalTrack c k a tracks i → AreTold frames base s p n a.looks → LegalTrack c k b tracks i → AreTold frames base s p n b.looks → a ≡ b
  one_track c k tracks i a b legal told legal_b told_b = by_end (track_at tracks i).life.ended legal legal_b
    where
      by_end : (e : Bool) → (let t = track_at tracks i in MatchBool e (a ≡ nothing_seen) (IsServed (slot_for c tracks i) (heard k i t) a (ready k i t))) → (let t = track_at tracks i in MatchBool e (b ≡ nothing_seen) (IsServed (slot_for c tracks i) (heard k i t) b (ready k i t))) → a ≡ b
      by_end true none none_b = none ∙ sym none_b
      by_end false is is_b = one_served (slot_for c tracks i) (heard k i (track_at tracks i)) (ready k i (track_at tracks i)) a b is told is_b told_b

-- ## All tracks

-- two lists are the same if each track is the same by the tracks before it
pub one_tracks : (c : Setup) (k : Learnt) (many : ℕ) (tracks : List TrackKept) (seen others : List TrackSeen) → ((i : ℕ) → i < many → served_to c k seen tracks i ≡ served_to c k others tracks i → seen_at seen i ≡ seen_at others i)
    → (i : ℕ) → i ≤ many → served_to c k seen tracks i ≡ served_to c k others tracks i
one_tracks c k many tracks seen others each zero low = refl
one_tracks c k many tracks seen others each (suc i) low =
    let before = one_tracks c k many tracks seen others each i (omega (arith, low)) in
    let here = each i (omega (arith, low)) before in
    λ j. slice_set (before j) i (served c k (here j).looks (before j) i)

pub one_list : (c : Setup) (k : Learnt) (tracks : List TrackKept) (seen others : List TrackSeen) → length seen ≡ length others → ((i : ℕ) → i < length seen → served_to c k seen tracks i ≡ served_to c k others tracks i → seen_at seen i ≡ seen_at others i) → seen ≡ others
one_list c k tracks seen others long each =
    ext_get_or nothing_seen seen others long (λ i low. each i low (one_tracks c k (length seen) tracks seen others each i (let l = low in omega (arith, l))))

-- ## From what a command block tells

nothing_taken : (frames : List ℕ) (base : ℕ) (p : TrackPoint) (shut : Bool) (status : Option ℕ) → taken_by frames base p ((if shut then server.SetFlags 4 ∷ [] else []) ++ status_events status) ≡ []
nothing_taken frames base p true None = refl
nothing_taken frames base p true (Some word) = refl
nothing_taken frames base p false None = refl
nothing_taken frames base p false (Some word) = refl

-- the looks of a turn that went on are told by the command block
pub looks_told : (frames : List ℕ) (c : Setup) (f : TurnFound) (e : Turn) (tracks : List TrackKept) (i : ℕ) → (let b = f.commands i in let o = outside_of c f e in
    e.ended ≡ false → LegalLooks (listed b) (track_in e i).looks (fronts_by lawful_front (listed b) (track_in e i).looks) → IsTakenOf frames b
    → IsToldLegally (server_does (command_list c o e tracks i) b) → IsTakenOf frames (took (going e (words_taken (track_in e i).looks)) (server_does (command_list c o e tracks i) b))
    → AreTold frames b.shape.base (listed b) (after (start b.shape) b.told) (length (client_of b.told)) (track_in e i).looks)
looks_told frames c f e tracks i runs legal before told taken =
    let b = f.commands i in
    let o = outside_of c f e in
    let p = after (start b.shape) b.told in
    let n = length (client_of b.told) in
    let looks = (track_in e i).looks in
    let more = invalid (learnt o) (track_in e i) tracks i ++ status_events (track_in e i).status in
    let events = all_command_events (listed b) looks (fronts_by lawful_front (listed b) looks) in
    let all : command_list c o e tracks i ≡ events ++ more = ap (λ (ended : Bool). if ended then [] else command_events_of c o (track_in e i) tracks i) runs ∙ append_assoc (all_command_events (listed b) looks (o.command_fronts i)) (invalid (learnt o) (track_in e i) tracks i) (status_events (track_in e i).status)
    ∙ ap (λ (es : List ServerEvent). es ++ more) (all_told (listed b) looks legal) in
    let sees = server_parts p n events more (subst (ServerSees p n) all (server_front (start b.shape) b.told (command_list c o e tracks i) told)) in
    let words : words_taken looks ≡ taken_by frames b.shape.base p events =
    sym (ap (λ (ended : Bool). if ended then [] else words_taken looks) runs)
    ∙ words_told frames b.shape b.told (command_list c o e tracks i) b.taken (going e (words_taken looks)) before taken
    ∙ ap (taken_by frames b.shape.base p) all
    ∙ taken_parts frames b.shape.base p events more
    ∙ ap (λ (ws : List ℕ). taken_by frames b.shape.base p events ++ ws) (nothing_taken frames b.shape.base (after_servers p events) _ (track_in e i).status)
    ∙ append-nil (taken_by frames b.shape.base p events) in
    record { legal = legal; sees = sees.0; words = words }
