-- The lines of a round's clients and of its turn are in order.
use Rattle.std.proofs.Common.{◌≡◌, inl, inr, ℕ, suc, ◌+◌, ◌<◌, ◌≤◌, ◌==◌, ◌&&◌, nat_lt, List, [], ◌∷◌, ◌++◌, length, map, Option, Some, None, Bool, true, false, cond, refl, ap, ◌∙◌, sym, subst, arith, All}
use Rattle.af_journal.proofs.Common.{All-head, All-tail, ClientCall, CommandLook, IsOpenTurn, IsTake, IsTurn, TakeSeen, TrackSeen, TracksRise, Turn, count_seen, ended_turn, flat_map, is_equal, length-map, nat_tests, packed_word}
use Rattle.af_journal.specs.declared.line.Line.TheVariants as line
use Rattle.af_journal.specs.declared.stage.Stage.{Stage}
use Rattle.af_journal.specs.declared.stage.Stage.TheVariants as stage
use Rattle.af_journal.specs.Lines.{Written, numbers}
use Rattle.af_journal.specs.LineReading.{◌>>=◌}
use Rattle.af_journal.proofs.Words.{after_all}
use Rattle.af_journal.specs.Stages.{after_line, after_look, after_taken, after_written, comes, if_so, is_next, may_end}
use Rattle.af_journal.specs.Texts.{call_lines, client_lines, command_words, disabled_lines, each_from, look_lines, status_lines, take_lines, track_lines, turn_lines, words_after}
use Rattle.af_journal.proofs.InOrder.{all-append}

-- lines lead from a stage to a good one
pub record Leads (tracks : ℕ) (at : Stage) (ws : List Written) (Good : Stage → Type 0) : Type 0 where
  pub next : Stage
  pub follow : after_all tracks at ws ≡ Some next
  pub good : Good next

pub none : (tracks : ℕ) (at : Stage) (P : Stage → Type 0) → P at → Leads tracks at [] P
none tracks at P good = record { next = at; follow = refl; good = good }

pub and_on : (tracks : ℕ) (at : Stage) (xs ys : List Written) (P Q : Stage → Type 0) → Leads tracks at xs P → ((next : Stage) → P next → Leads tracks next ys Q) → Leads tracks at (xs ++ ys) Q
and_on tracks at xs ys P Q l f = let m = f l.next l.good in record { next = m.next; follow = all-append tracks xs ys at l.next l.follow ∙ m.follow; good = m.good }

-- one line leads on, and then others
pub first : (tracks : ℕ) (at mid : Stage) (w : Written) (ws : List Written) (Q : Stage → Type 0) → after_written tracks at w ≡ Some mid → Leads tracks mid ws Q → Leads tracks at (w ∷ ws) Q
first tracks at mid w ws Q e l = record { next = l.next; follow = ap (λ o. o >>= λ next. after_all tracks next ws) e ∙ l.follow; good = l.good }

pub if_true : (b : Bool) (at : Stage) → b ≡ true → if_so b at ≡ Some at
if_true b at e = ap (λ b. if_so b at) e

-- ## What may come

-- a round may, or the end
abbrev pub AtRound : ℕ → Stage → Type 0
AtRound tracks at = (after_line tracks at line.Round ≡ Some (stage.Clients 0)) × (may_end at ≡ true)

-- entries may, too
abbrev pub AtFast : ℕ → Stage → Type 0
AtFast tracks at = (after_line tracks at line.Fast ≡ Some stage.Fast) × AtRound tracks at

-- an entry is due, or may come
abbrev pub IsDue : ℕ → Stage → Type 0
IsDue tracks at = (state kind : ℕ) → after_line tracks at (line.Entry state kind) ≡ Some (cond (kind == 0) (stage.Mixed 0) stage.Entries)

-- ## Clients

-- the client of track n may come
abbrev pub AtClients : ℕ → Stage → Type 0
AtClients n (stage.Clients low) = low ≤ n
AtClients n (stage.Calls low) = low ≤ n
AtClients n _ = ⊥

pub clients_fast : (tracks n : ℕ) (at : Stage) → AtClients n at → AtFast tracks at
clients_fast tracks n (stage.Clients low) p = (refl, (refl, refl))
clients_fast tracks n (stage.Calls low) p = (refl, (refl, refl))
clients_fast tracks n _ p = absurd p

pub next_is : (tracks low n : ℕ) → low ≤ n → n < tracks → is_next tracks low n ≡ true
next_is tracks low n h k = grind (arith, nat_tests)

pub client_comes : (tracks n : ℕ) (at : Stage) → AtClients n at → n < tracks → after_line tracks at (line.Client n) ≡ Some (stage.Client (n + 1))
client_comes tracks n (stage.Clients low) p h = if_true (is_next tracks low n) (stage.Client (n + 1)) (next_is tracks low n p h)
client_comes tracks n (stage.Calls low) p h = if_true (is_next tracks low n) (stage.Client (n + 1)) (next_is tracks low n p h)
client_comes tracks n _ p h = absurd p

pub later_client : (n m : ℕ) (at : Stage) → n ≤ m → AtClients n at → AtClients m at
later_client n m (stage.Clients low) h p = omega arith
later_client n m (stage.Calls low) h p = omega arith
later_client n m _ h p = absurd p

pub calls_lead : (tracks n low : ℕ) (calls : List ClientCall) → low ≤ n → Leads tracks (stage.Calls low) (call_lines calls) (AtClients n)
calls_lead tracks n low [] h = none tracks (stage.Calls low) (AtClients n) h
calls_lead tracks n low (c ∷ calls) h = first tracks (stage.Calls low) (stage.Calls low) (numbers (line.Call c)) (call_lines calls) (AtClients n) refl (calls_lead tracks n low calls h)

pub client_leads : (tracks n : ℕ) (at : Stage) (calls : List ClientCall) → n < tracks → AtClients n at → Leads tracks at (client_lines n calls) (AtClients (n + 1))
client_leads tracks n at [] h p = none tracks at (AtClients (n + 1)) (later_client n (n + 1) at (omega arith) p)
client_leads tracks n at (c ∷ calls) h p =
    first tracks at (stage.Client (n + 1)) (numbers (line.Client n)) (call_lines (c ∷ calls)) (AtClients (n + 1)) (client_comes tracks n at p h)
    (first tracks (stage.Client (n + 1)) (stage.Calls (n + 1)) (numbers (line.Call c)) (call_lines calls) (AtClients (n + 1)) refl (calls_lead tracks (n + 1) (n + 1) calls (omega arith)))

pub clients_lead : (tracks n : ℕ) (at : Stage) (calls : List (List ClientCall)) → n + length calls ≤ tracks → AtClients n at → Leads tracks at (each_from client_lines n calls) (AtClients (n + length calls))
clients_lead tracks n at [] h p = none tracks at (AtClients (n + 0)) (later_client n (n + 0) at (omega arith) p)
clients_lead tracks n at (c ∷ calls) h p =
    subst (λ m. Leads tracks at (each_from client_lines n (c ∷ calls)) (AtClients m)) (let e : n + 1 + length calls ≡ n + suc (length calls) = omega arith in e)
    (and_on tracks at (client_lines n c) (each_from client_lines (n + 1) calls) (AtClients (n + 1)) (AtClients (n + 1 + length calls)) (client_leads tracks n at c (omega arith) p)
    (λ next q. clients_lead tracks (n + 1) next calls (omega arith) q))

pub turn_comes : (tracks n : ℕ) (at : Stage) (room cycle : ℕ) (ack : Bool) → AtClients n at → (after_line tracks at (line.Turn room ack cycle) ≡ Some (stage.Turn 0 0)) × (after_line tracks at line.Ended ≡ Some stage.Turned)
turn_comes tracks n (stage.Clients low) room cycle ack p = (refl, refl)
turn_comes tracks n (stage.Calls low) room cycle ack p = (refl, refl)
turn_comes tracks n _ room cycle ack p = absurd p

-- ## A turn

-- a part of a track may come
abbrev pub AtPart : ℕ → ℕ → Stage → Type 0
AtPart track part (stage.Turn low low_part) = comes track part low low_part ≡ true
AtPart track part _ = ⊥

-- the stage is one of a turn
pub record OfTurn (track part : ℕ) (at : Stage) : Type 0 where
  pub low : ℕ
  pub low_part : ℕ
  pub is : at ≡ stage.Turn low low_part
  pub may : comes track part low low_part ≡ true

pub of_turn : (track part : ℕ) (at : Stage) → AtPart track part at → OfTurn track part at
of_turn track part (stage.Turn low low_part) p = record { low = low; low_part = low_part; is = refl; may = p }
of_turn track part _ p = absurd p

pub may_part : (tracks track part low low_part : ℕ) → track < tracks → comes track part low low_part ≡ true → (nat_lt track tracks && comes track part low low_part) ≡ true
may_part tracks track part low low_part h e = grind (arith, nat_tests)

pub later_part : (track p q low low_part : ℕ) → p ≤ q → comes track p low low_part ≡ true → comes track q low low_part ≡ true
later_part track p q low low_part h e = grind (arith, nat_tests)

pub next_track : (track p low low_part : ℕ) → comes track p low low_part ≡ true → comes (track + 1) 0 low low_part ≡ true
next_track track p low low_part e = grind (arith, nat_tests)

pub own_part : (track p q : ℕ) → q ≤ p → comes track p track q ≡ true
own_part track p q h = grind (arith, nat_tests)

-- the words of a look come, if it took some
pub look_words : (tracks track code argument : ℕ) (b : Bool) → after_all tracks (cond b (stage.Look track) (stage.Turn track 0)) (words_after (cond b (code ∷ argument ∷ []) [])) ≡ Some (stage.Turn track 0)
look_words tracks track code argument true = refl
look_words tracks track code argument false = refl

pub look_leads : (tracks track : ℕ) (at : Stage) (l : CommandLook) → track < tracks → AtPart track 0 at → Leads tracks at (look_lines track l) (AtPart track 0)
look_leads tracks track at l h p =
    let o = of_turn track 0 at p in
    subst (λ at. Leads tracks at (look_lines track l) (AtPart track 0)) (sym o.is)
    (first tracks (stage.Turn o.low o.low_part) (after_look track l.seen) (numbers (line.Look track l.flush l.rear l.seen)) (words_after (command_words l)) (AtPart track 0)
    (if_true (nat_lt track tracks && comes track 0 o.low o.low_part) (after_look track l.seen) (may_part tracks track 0 o.low o.low_part h o.may))
    (record { next = stage.Turn track 0; follow = look_words tracks track l.code l.argument (count_seen l.seen == 2); good = own_part track 0 0 (omega arith) }))

pub looks_lead : (tracks track : ℕ) (at : Stage) (ls : List CommandLook) → track < tracks → AtPart track 0 at → Leads tracks at (flat_map (look_lines track) ls) (AtPart track 0)
looks_lead tracks track at [] h p = none tracks at (AtPart track 0) p
looks_lead tracks track at (l ∷ ls) h p =
    and_on tracks at (look_lines track l) (flat_map (look_lines track) ls) (AtPart track 0) (AtPart track 0) (look_leads tracks track at l h p) (λ next q. looks_lead tracks track next ls h q)

pub at_later : (track p q : ℕ) (at : Stage) → p ≤ q → AtPart track p at → AtPart track q at
at_later track p q at h a = let o = of_turn track p at a in subst (AtPart track q) (sym o.is) (later_part track p q o.low o.low_part h o.may)

pub at_next : (track p : ℕ) (at : Stage) → AtPart track p at → AtPart (track + 1) 0 at
at_next track p at a = let o = of_turn track p at a in subst (AtPart (track + 1) 0) (sym o.is) (next_track track p o.low o.low_part o.may)

pub disabled_leads : (tracks track : ℕ) (at : Stage) (b : Bool) → track < tracks → AtPart track 0 at → Leads tracks at (disabled_lines track b) (AtPart track 2)
disabled_leads tracks track at false h p = none tracks at (AtPart track 2) (at_later track 0 2 at (omega arith) p)
disabled_leads tracks track at true h p =
    let o = of_turn track 0 at p in
    subst (λ at. Leads tracks at (disabled_lines track true) (AtPart track 2)) (sym o.is)
    (first tracks (stage.Turn o.low o.low_part) (stage.Turn track 2) (numbers (line.Disabled track)) [] (AtPart track 2)
    (if_true (nat_lt track tracks && comes track 1 o.low o.low_part) (stage.Turn track 2) (may_part tracks track 1 o.low o.low_part h (later_part track 0 1 o.low o.low_part (omega arith) o.may)))
    (none tracks (stage.Turn track 2) (AtPart track 2) (own_part track 2 2 (omega arith))))

pub status_leads : (tracks track : ℕ) (at : Stage) (s : Option ℕ) → track < tracks → AtPart track 2 at → Leads tracks at (status_lines track s) (AtPart (track + 1) 0)
status_leads tracks track at None h p = none tracks at (AtPart (track + 1) 0) (at_next track 2 at p)
status_leads tracks track at (Some word) h p =
    let o = of_turn track 2 at p in
    subst (λ at. Leads tracks at (status_lines track (Some word)) (AtPart (track + 1) 0)) (sym o.is)
    (first tracks (stage.Turn o.low o.low_part) (stage.Turn (track + 1) 0) (numbers (line.Status track word)) [] (AtPart (track + 1) 0)
    (if_true (nat_lt track tracks && comes track 2 o.low o.low_part) (stage.Turn (track + 1) 0) (may_part tracks track 2 o.low o.low_part h o.may))
    (none tracks (stage.Turn (track + 1) 0) (AtPart (track + 1) 0) (own_part (track + 1) 0 0 (omega arith))))

pub track_leads : (tracks track : ℕ) (at : Stage) (t : TrackSeen) → track < tracks → AtPart track 0 at → Leads tracks at (track_lines track t) (AtPart (track + 1) 0)
track_leads tracks track at t h p =
    and_on tracks at (flat_map (look_lines track) t.looks ++ disabled_lines track t.disabled) (status_lines track t.status) (AtPart track 2) (AtPart (track + 1) 0)
    (and_on tracks at (flat_map (look_lines track) t.looks) (disabled_lines track t.disabled) (AtPart track 0) (AtPart track 2) (looks_lead tracks track at t.looks h p) (λ next q. disabled_leads tracks track next t.disabled h q))
    (λ next q. status_leads tracks track next t.status h q)

pub tracks_lead : (tracks n : ℕ) (at : Stage) (ts : List TrackSeen) → n + length ts ≤ tracks → AtPart n 0 at → Leads tracks at (each_from track_lines n ts) (AtPart (n + length ts) 0)
tracks_lead tracks n at [] h p = none tracks at (AtPart (n + 0) 0) (subst (λ m. AtPart m 0 at) (let e : n ≡ n + 0 = omega arith in e) p)
tracks_lead tracks n at (t ∷ ts) h p =
    subst (λ m. Leads tracks at (each_from track_lines n (t ∷ ts)) (AtPart m 0)) (let e : n + 1 + length ts ≡ n + suc (length ts) = omega arith in e)
    (and_on tracks at (track_lines n t) (each_from track_lines (n + 1) ts) (AtPart (n + 1) 0) (AtPart (n + 1 + length ts) 0) (track_leads tracks n at t (omega arith) p)
    (λ next q. tracks_lead tracks (n + 1) next ts (omega arith) q))

-- ## Words that are due

pub no_words : (ws : List ℕ) (count : ℕ) → (count == 0) ≡ true → length ws ≡ count → ws ≡ []
no_words [] count z e = refl
no_words (w ∷ ws) count z e = absurd (let h : count ≡ 0 = grind (arith, nat_tests) in omega arith)

pub not_none : (count : ℕ) → (count == 0) ≡ false → 0 ≡ count → ⊥
not_none count z e = grind (arith, nat_tests)

pub taken_words : (tracks count low : ℕ) (ws : List ℕ) (b : Bool) → (count == 0) ≡ b → length ws ≡ count → after_all tracks (cond b (stage.Takes low) (stage.Take count low)) (words_after ws) ≡ Some (stage.Takes low)
taken_words tracks count low ws true z e = ap (λ ws. after_all tracks (stage.Takes low) (words_after ws)) (no_words ws count z e)
taken_words tracks count low [] false z e = absurd (not_none count z e)
taken_words tracks count low (w ∷ ws) false z e = ap (λ b. if_so b (stage.Takes low) >>= λ next. Some next) (is_equal (length (w ∷ ws)) count e)

pub shown_words : (tracks count low : ℕ) (ws : List ℕ) (b : Bool) → (count == 0) ≡ b → length ws ≡ count → after_all tracks (cond b (stage.Mixed low) (stage.Slot count low)) (words_after ws) ≡ Some (stage.Mixed low)
shown_words tracks count low ws true z e = ap (λ ws. after_all tracks (stage.Mixed low) (words_after ws)) (no_words ws count z e)
shown_words tracks count low [] false z e = absurd (not_none count z e)
shown_words tracks count low (w ∷ ws) false z e = ap (λ b. if_so b (stage.Mixed low) >>= λ next. Some next) (is_equal (length (w ∷ ws)) count e)

pub takes_lead : (tracks low : ℕ) (ts : List TakeSeen) → All (IsTake tracks) ts → TracksRise low ts → Leads tracks (stage.Takes low) (flat_map take_lines ts) (AtFast tracks)
takes_lead tracks low [] are rise = none tracks (stage.Takes low) (AtFast tracks) (refl, (refl, refl))
takes_lead tracks low (t ∷ ts) are rise =
    let is : IsTake tracks t = All-head (IsTake tracks) t ts are in
    let ws = map packed_word t.frames in
    let count = count_seen t.slot.seen in
    let taken : after_all tracks (after_taken t.track t.slot.seen) (words_after ws) ≡ Some (stage.Takes (t.track + 1)) =
    taken_words tracks count (t.track + 1) ws (count == 0) refl (length-map t.frames packed_word ∙ is.frames) in
    first tracks (stage.Takes low) (after_taken t.track t.slot.seen) (numbers (line.Take t.track t.slot.gains t.slot.flush t.slot.rear t.slot.seen)) (words_after ws ++ flat_map take_lines ts) (AtFast tracks)
    (if_true (is_next tracks low t.track) (after_taken t.track t.slot.seen) (next_is tracks low t.track rise.0 is.track))
    (and_on tracks (after_taken t.track t.slot.seen) (words_after ws) (flat_map take_lines ts) (λ at. at ≡ stage.Takes (t.track + 1)) (AtFast tracks)
    (record { next = stage.Takes (t.track + 1); follow = taken; good = refl })
    (λ next e. subst (λ at. Leads tracks at (flat_map take_lines ts) (AtFast tracks)) (sym e) (takes_lead tracks (t.track + 1) ts (All-tail (IsTake tracks) t ts are) rise.1)))

pub push_comes : (tracks track : ℕ) (at : Stage) (w : Written) (e : Turn) → AtPart track 0 at → after_line tracks at (line.Pushed e.push) ≡ Some (stage.Takes 0)
push_comes tracks track at w e p = let o = of_turn track 0 at p in ap (λ at. after_line tracks at (line.Pushed e.push)) o.is

pub open_lead : (tracks n : ℕ) (at : Stage) (e : Turn) (b : Bool) → e.ended ≡ b → b ≡ false → IsOpenTurn tracks e → AtClients n at → Leads tracks at (turn_lines e) (AtFast tracks)
open_lead tracks n at e true is off form p = cc
open_lead tracks n at e false is off form p =
    let lines = numbers (line.Turn e.room e.ack e.cycle) ∷ each_from track_lines 0 e.tracks ++ numbers (line.Pushed e.push) ∷ flat_map take_lines e.mixes in
    subst (λ b. Leads tracks at (cond b (numbers line.Ended ∷ []) lines) (AtFast tracks)) (sym is)
    (first tracks at (stage.Turn 0 0) (numbers (line.Turn e.room e.ack e.cycle)) (each_from track_lines 0 e.tracks ++ numbers (line.Pushed e.push) ∷ flat_map take_lines e.mixes) (AtFast tracks) (turn_comes tracks n at e.room e.cycle e.ack p).0
    (and_on tracks (stage.Turn 0 0) (each_from track_lines 0 e.tracks) (numbers (line.Pushed e.push) ∷ flat_map take_lines e.mixes) (AtPart (0 + length e.tracks) 0) (AtFast tracks)
    (tracks_lead tracks 0 (stage.Turn 0 0) e.tracks (let h = form.each in omega arith) refl)
    (λ next q. first tracks next (stage.Takes 0) (numbers (line.Pushed e.push)) (flat_map take_lines e.mixes) (AtFast tracks) (push_comes tracks (0 + length e.tracks) next (numbers line.Fast) e q) (takes_lead tracks 0 e.mixes form.takes form.rise))))

pub ended_leads : (tracks n : ℕ) (at : Stage) → AtClients n at → Leads tracks at (turn_lines ended_turn) (AtFast tracks)
ended_leads tracks n at p = first tracks at stage.Turned (numbers line.Ended) [] (AtFast tracks) (turn_comes tracks n at 0 0 true p).1 (none tracks stage.Turned (AtFast tracks) (refl, (refl, refl)))

pub turn_leads : (tracks n : ℕ) (at : Stage) (e : Turn) → IsTurn tracks e → AtClients n at → Leads tracks at (turn_lines e) (AtFast tracks)
turn_leads tracks n at e (inl same) p = subst (λ e. Leads tracks at (turn_lines e) (AtFast tracks)) (sym same) (ended_leads tracks n at p)
turn_leads tracks n at e (inr form) p = open_lead tracks n at e e.ended refl form.open_is form p
