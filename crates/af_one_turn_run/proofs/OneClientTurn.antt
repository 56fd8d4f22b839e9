-- A client has one turn by what its blocks tell.
use Rattle.std.proofs.Common.{◌≡◌, ◌⊎◌, inl, inr, ℕ, ◌-◌, ◌≤◌, Bool, true, false, true≢false, if◌then◌else◌, fold, map, List, [], ◌∷◌, ◌++◌, drop, length, Option, Some, None, refl, sym, ap, ◌∙◌, subst, arith, append_assoc, append-nil, is_some, unwrap_or}
use Rattle.af_one_turn_run.proofs.Common.{AreCalls, ClientCall, ClientEvent, IsLegal, IsMade, LegalClientTurn, MatchBool, Side, Track, TrackTold, Want, after, after_call, by_client, called_in_turn, client_list, is_of_commands, most_calls, released_by, server_of, side_of, sides_of, start, wanted_of, told_more}
use Rattle.af_runs.specs.ClientTurns.{called as side_called}
use Rattle.af_one_turn_run.proofs.Seeing.{after_clients, ClientSees}
use Rattle.af_one_turn_run.proofs.Told.{IsTrackLegal}
use Rattle.af_one_turn_run.proofs.LegalFronts.{client_front, client_parts}
use Rattle.af_one_turn_run.proofs.OneAnswer.{Points, point_at, served_at, events_by, CallSees, one_answer}

-- ## The events of calls on one block

-- these events, if both flags are the same
abbrev pub only_on : Bool → Bool → List ClientEvent → List ClientEvent
only_on true true es = es
only_on false false es = es
only_on _ _ es = []

abbrev pub side_at : Track → Bool → Side
side_at t on = if on then t.commands else t.stream

abbrev pub call_events : Bool → Track → ClientCall → List ClientEvent
call_events on t a = only_on (is_of_commands a) on (events_by (side_of t a) a)

abbrev pub calls_events : Bool → Track → List ClientCall → List ClientEvent
calls_events on t [] = []
calls_events on t (a ∷ calls) = call_events on t a ++ calls_events on (after_call t a) calls

call_adds : (on : Bool) (t : Track) (a : ClientCall) → (side_at (after_call t a) on).events ≡ (side_at t on).events ++ call_events on t a
call_adds on t a = by_side on (is_of_commands a)
  where
    by_side : (on b : Bool) → (let r : Track = if b then record t { commands = side_called a (released_by t a) t.commands } else record t { stream = side_called a (released_by t a) t.stream } in (side_at r on).events)
        ≡ (side_at t on).events ++ only_on b on (events_by (if b then t.commands else t.stream) a)
    by_side true true = refl
    by_side true false = sym (append-nil t.commands.events)
    by_side false true = sym (append-nil t.stream.events)
    by_side false false = refl

pub calls_add : (on : Bool) (t : Track) (calls : List ClientCall) → (side_at (fold after_call t calls) on).events ≡ (side_at t on).events ++ calls_events on t calls
calls_add on t [] = sym (append-nil (side_at t on).events)
calls_add on t (a ∷ calls) = calls_add on (after_call t a) calls ∙ ap (λ (es : List ClientEvent). es ++ calls_events on (after_call t a) calls) (call_adds on t a) ∙ append_assoc (side_at t on).events (call_events on t a) (calls_events on (after_call t a) calls)

-- ## The calls

-- all calls see what is there
abbrev AllSee : Points → Track → List ClientCall → Type 0
AllSee p t calls = (on : Bool) → ClientSees (point_at p on) (served_at p on) (calls_events on t calls)

abbrev points_after : Points → Track → ClientCall → Points
points_after p t a = record p { stream = after_clients p.stream (call_events false t a); commands = after_clients p.commands (call_events true t a) }

same_on : (b : Bool) (es : List ClientEvent) → only_on b b es ≡ es
same_on true es = refl
same_on false es = refl

first_sees : (p : Points) (t : Track) (a : ClientCall) (calls : List ClientCall) → AllSee p t (a ∷ calls) → CallSees t p a
first_sees p t a calls h =
    let b = is_of_commands a in
    subst (ClientSees (point_at p b) (served_at p b)) (same_on b (events_by (side_of t a) a)) (client_parts (point_at p b) (served_at p b) (call_events b t a) (calls_events b (after_call t a) calls) (h b)).0

rest_see : (p : Points) (t : Track) (a : ClientCall) (calls : List ClientCall) → AllSee p t (a ∷ calls) → AllSee (points_after p t a) (after_call t a) calls
rest_see p t a calls h true = (client_parts p.commands p.commands_served (call_events true t a) (calls_events true (after_call t a) calls) (h true)).1
rest_see p t a calls h false = (client_parts p.stream p.stream_served (call_events false t a) (calls_events false (after_call t a) calls) (h false)).1

wants_none : (o : Option Want) (w : Want) (left : ℕ) → (left ≡ 0) ⊎ (o ≡ None) → 1 ≤ left → o ≡ Some w → ⊥
wants_none o w left (inl e) some is = omega (arith, e, some)
wants_none o w left (inr e) some is = true≢false (sym (ap is_some is) ∙ ap is_some e)

one_calls : (left : ℕ) (t : Track) (p : Points) (calls others : List ClientCall) → AreCalls left t calls → AllSee p t calls → AreCalls left t others → AllSee p t others → calls ≡ others
one_calls left t p [] [] are see are_others others_see = refl
one_calls left t p [] (b ∷ others) are see are_others others_see = absurd (wants_none (wanted_of t) are_others.1 left are are_others.0 are_others.2)
one_calls left t p (a ∷ calls) [] are see are_others others_see = absurd (wants_none (wanted_of t) are.1 left are_others are.0 are.2)
one_calls left t p (a ∷ calls) (b ∷ others) are see are_others others_see =
    let w = are.1 in
    let same_want : are_others.1 ≡ w = ap (λ o. unwrap_or o w) (sym are_others.2 ∙ are.2) in
    let same : b ≡ a = one_answer t p w b a (subst (λ v. IsMade t v b) same_want are_others.3) (first_sees p t b others others_see) are.3 (first_sees p t a calls see) in
    (λ i. a ∷ one_calls (left - 1) (after_call t a) (points_after p t a) calls others are.4 (rest_see p t a calls see)
    (subst (λ c. AreCalls (left - 1) (after_call t c) others) same are_others.4)
    (subst (λ c. AllSee (points_after p t c) (after_call t c) others) same (rest_see p t b others others_see)) i)
    ∙ ap (λ c. c ∷ others) (sym same)

-- ## The turn

pub drop_first : (A : Type 0) (xs ys : List A) → drop (length xs) (xs ++ ys) ≡ ys
drop_first A [] ys = refl
drop_first A (x ∷ xs) ys = drop_first A xs ys

module _ (t : TrackTold) where
  abbrev told_points : Points
  told_points = record {
    stream = after (start t.stream.shape) t.stream.told;
    commands = after (start t.commands.shape) t.commands.told;
    stream_served = length (server_of t.stream.told);
    commands_served = length (server_of t.commands.told);
  }

  -- the calls of a turn after which both blocks are told legally see what is there
  turn_sees : (calls : List ClientCall) → IsTrackLegal (called_in_turn calls t) → AllSee told_points (sides_of t) calls
  turn_sees calls h true =
      let es = calls_events true (sides_of t) calls in
      let tells : drop (length (client_list t.commands)) (fold after_call (sides_of t) calls).commands.events ≡ es =
      ap (drop (length (client_list t.commands))) (calls_add true (sides_of t) calls) ∙ drop_first ClientEvent (client_list t.commands) es in
      client_front (start t.commands.shape) t.commands.told es (subst (λ l. IsLegal (start t.commands.shape) (told_more t.commands.told (map by_client l))) tells h.commands)
  turn_sees calls h false =
      let es = calls_events false (sides_of t) calls in
      let tells : drop (length (client_list t.stream)) (fold after_call (sides_of t) calls).stream.events ≡ es =
      ap (drop (length (client_list t.stream))) (calls_add false (sides_of t) calls) ∙ drop_first ClientEvent (client_list t.stream) es in
      client_front (start t.stream.shape) t.stream.told es (subst (λ l. IsLegal (start t.stream.shape) (told_more t.stream.told (map by_client l))) tells h.stream)

  -- two legal turns after which both blocks are told legally are the same
  pub one_client_turn : (calls others : List ClientCall) → LegalClientTurn (sides_of t) calls → IsTrackLegal (called_in_turn calls t) → LegalClientTurn (sides_of t) others → IsTrackLegal (called_in_turn others t) → calls ≡ others
  one_client_turn calls others legal told legal_others told_others = by_end t.client.ended legal legal_others
    where
      by_end : (b : Bool) → MatchBool b (calls ≡ []) (AreCalls most_calls (sides_of t) calls) → MatchBool b (others ≡ []) (AreCalls most_calls (sides_of t) others) → calls ≡ others
      by_end true none none_others = none ∙ sym none_others
      by_end false are are_others = one_calls most_calls (sides_of t) told_points calls others are (turn_sees calls told) are_others (turn_sees others told_others)
