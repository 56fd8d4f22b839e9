-- A client that flushes and pauses nothing sends no command but those of a course, whatever it is answered; and these keep a track that plays in the mix, or end it.
use Rattle.std.proofs.Common.{◌≡◌, ◌⊎◌, inl, inr, ℕ, zero, suc, ◌≤◌, ◌==◌, ◌&&◌, ◌||◌, nat_le, not, if◌then◌else◌, is_some, Bool, true, false, Option, List, [], ◌∷◌, ◌++◌, take, fold, refl, sym, ap, ◌∙◌, subst, append-nil, eqb-true}
use Rattle.af_enough_law.proofs.Common.{Active, ClientCall, ClientCommand, CommandLook, IsWanted, Known, LegalClientTurn, Life, Stopping1, Stopping2, Track, TrackKept, Want, after_call, after_look, after_looks, both_first, both_right, both_true, by_command, by_report, ended, goes_on, is_shut, must_wait, no, obeyed, plays, shows_command, told, words_taken}
use Rattle.af_base.specs.declared.event.ClientCall.TheVariants as call
use Rattle.af_life.specs.Obeys.{commanded}
use Rattle.af_runs.specs.Clients.{command_code}
use Rattle.af_runs.specs.declared.want.ClientCommand.TheVariants as command
use Rattle.af_runs.specs.declared.want.Want.TheVariants as want
use Rattle.af_enough_law.proofs.Courses.{code_at, course, life_in}
use Rattle.af_enough_law.proofs.Able.{none_told}
use Rattle.af_enough_law.proofs.Coursing.{ended_same}
use Rattle.af_enough_law.proofs.Flushless.{is_flushless_want, IsFlushlessTrack, wanted_flushless, call_flushless}
use Rattle.af_enough_law.proofs.ClientWalk.{turn_keeps}

-- ## Words

-- the code is one of a course
abbrev pub is_course_code : ℕ → Bool
is_course_code code = (code == 1) || (code == 2) || (code == 4) || (code == 6)

-- the words of some commands, each of which is one of a course
abbrev pub plain_words : List ℕ → Bool
plain_words (code ∷ argument ∷ words) = is_course_code code && plain_words words
plain_words _ = true

pub plain_take : (n : ℕ) (words : List ℕ) → plain_words words ≡ true → plain_words (take n words) ≡ true
plain_take zero words h = refl
plain_take (suc n) [] h = refl
plain_take (suc zero) (code ∷ words) h = refl
plain_take (suc (suc n)) (code ∷ []) h = refl
plain_take (suc (suc n)) (code ∷ argument ∷ words) h = both_true (is_course_code code) (plain_words (take n words)) (both_first (is_course_code code) (plain_words words) h) (plain_take n words (both_right (is_course_code code) (plain_words words) h))

-- what follows so many commands is plain
pub plain_tail : (count told more : ℕ) (words : List ℕ) → plain_words (course count told more ++ words) ≡ true → plain_words words ≡ true
plain_tail count told zero words h = h
plain_tail count told (suc more) words h = plain_tail count (suc told) more words (both_right (is_course_code (code_at told)) (plain_words (course count (suc told) more ++ words)) h)

pub plain_course : (count told more : ℕ) → plain_words (course count told more) ≡ true
plain_course count told zero = refl
plain_course count zero (suc more) = plain_course count 1 more
plain_course count (suc zero) (suc more) = plain_course count 2 more
plain_course count (suc (suc zero)) (suc more) = plain_course count 3 more
plain_course count (suc (suc (suc told))) (suc more) = plain_course count (suc (suc (suc (suc told)))) more

-- ## What a client sends

-- the words of whole commands
abbrev pub even_words : List ℕ → Bool
even_words [] = true
even_words (x ∷ []) = false
even_words (x ∷ y ∷ words) = even_words words

-- some whole commands of a course were sent
pub record ArePlain (words : List ℕ) : Type 0 where
  pub even : even_words words ≡ true
  pub plain : plain_words words ≡ true

pub even_course : (count told more : ℕ) → even_words (course count told more) ≡ true
even_course count told zero = refl
even_course count told (suc more) = even_course count (suc told) more

pub course_plain : (count told more : ℕ) → ArePlain (course count told more)
course_plain count told more = record { even = even_course count told more; plain = plain_course count told more }

plain_join : (xs : List ℕ) (code argument : ℕ) → even_words xs ≡ true → plain_words xs ≡ true → is_course_code code ≡ true → (even_words (xs ++ code ∷ argument ∷ []) ≡ true) × (plain_words (xs ++ code ∷ argument ∷ []) ≡ true)
plain_join [] code argument e p h = (refl, both_true (is_course_code code) true h refl)
plain_join (x ∷ []) code argument e p h = no e
plain_join (x ∷ y ∷ xs) code argument e p h = let rest = plain_join xs code argument e (both_right (is_course_code x) (plain_words xs) p) h in (rest.0, both_true (is_course_code x) (plain_words (xs ++ code ∷ argument ∷ [])) (both_first (is_course_code x) (plain_words xs) p) rest.1)

with_none : (xs : List ℕ) → ArePlain xs → ArePlain (xs ++ [])
with_none xs h = subst ArePlain (sym (append-nil xs)) h

code_plain : (sending : ClientCommand) → is_flushless_want (want.Send sending) ≡ true → is_course_code (command_code sending) ≡ true
code_plain command.Pause h = no h
code_plain command.Flush h = no h
code_plain _ h = refl

is_sent : ClientCall → Bool
is_sent (call.Sent front code argument) = true
is_sent _ = false

sent_plain : (t : Track) (w : Want) (front code argument : ℕ) → is_flushless_want w ≡ true → IsWanted t w (call.Sent front code argument) → is_course_code code ≡ true
unfolding is_sent
sent_plain t (want.Send sending) front code argument plain made = ap is_course_code (eqb-true code (command_code sending) (both_first (code == command_code sending) _ made)) ∙ code_plain sending plain
sent_plain t (want.Gain left right) front code argument plain made = no (sym (ap is_sent made))
sent_plain t (want.Poke in_command word value) front code argument plain made = no (sym (ap is_sent made))
sent_plain t want.Rest front code argument plain made = absurd made
sent_plain t want.Leave front code argument plain made = ap is_course_code (eqb-true code (command_code command.Remove) (both_first (code == command_code command.Remove) _ made))
sent_plain t _ front code argument plain made = no made

call_plain : (t : Track) (w : Want) (answer : ClientCall) → is_flushless_want w ≡ true → IsWanted t w answer → ArePlain t.commands.released → ArePlain (after_call t answer).commands.released
call_plain t w (call.Put front count) plain made h = h
call_plain t w (call.Full front) plain made h = h
call_plain t w (call.Dead flags) plain made h = h
call_plain t w (call.Corrupt front rear) plain made h = h
call_plain t w (call.Cleared flags) plain made h = h
call_plain t w (call.Flush count) plain made h = h
call_plain t w (call.Gain word) plain made h = h
call_plain t w (call.Sent front code argument) plain made h = let join = plain_join t.commands.released code argument h.even h.plain (sent_plain t w front code argument plain made) in record { even = join.0; plain = join.1 }
call_plain t w (call.SendFull front) plain made h = with_none t.commands.released h
call_plain t w (call.SendDead flags) plain made h = with_none t.commands.released h
call_plain t w (call.SendCorrupt front rear) plain made h = with_none t.commands.released h
call_plain t w (call.Status word) plain made h = with_none t.commands.released h
call_plain t w (call.Poke false word value) plain made h = h
call_plain t w (call.Poke true word value) plain made h = with_none t.commands.released h

-- in a legal turn a client that never flushes sends plain commands alone
pub turn_plain : (t : Track) (calls : List ClientCall) → IsFlushlessTrack t → LegalClientTurn t calls → ArePlain t.commands.released → ArePlain (fold after_call t calls).commands.released
turn_plain t calls flushless legal h =
    (turn_keeps (λ (u : Track). IsFlushlessTrack u × ArePlain u.commands.released)
    (λ u w answer is wanted made. (call_flushless u w answer is.0 wanted made, call_plain u w answer (wanted_flushless u w is.0.client wanted) made.0 is.1)) t calls legal (flushless, h)).1

-- ## What plain commands make of a track that plays

-- a life has ended, plays, or is on its way to a stop
pub data InPlay : Life → Type 0 where
  is_over : (l : Life) → l.ended ≡ true → InPlay l
  plays_on : (drained : Bool) (retries stop_at : ℕ) → InPlay (life_in Active true drained retries stop_at)
  stops_on : (drained : Bool) (retries stop_at : ℕ) → InPlay (life_in Stopping1 true drained retries stop_at)

code_cases : (P : ℕ → Type 0) (code : ℕ) → is_course_code code ≡ true → P 1 → P 2 → P 4 → P 6 → P code
code_cases P code h a b c d = by (code == 1) (code == 2) (code == 4) (code == 6) refl refl refl refl h
  where
    by : (w x y z : Bool) → (code == 1) ≡ w → (code == 2) ≡ x → (code == 4) ≡ y → (code == 6) ≡ z → (w || x || y || z) ≡ true → P code
    by true x y z e f g i h = subst P (sym (eqb-true code 1 e)) a
    by false true y z e f g i h = subst P (sym (eqb-true code 2 f)) b
    by false false true z e f g i h = subst P (sym (eqb-true code 4 g)) c
    by false false false true e f g i h = subst P (sym (eqb-true code 6 i)) d
    by false false false false e f g i h = no h

pub command_in : (code argument : ℕ) (l : Life) → is_course_code code ≡ true → InPlay l → InPlay (by_command code argument l)
unfolding by_command
command_in code argument l h (is_over x e) = subst InPlay (sym (ended_same code argument l e)) (is_over l e)
command_in code argument l h (plays_on drained retries stop_at) = code_cases (λ c. InPlay (by_command c argument (life_in Active true drained retries stop_at))) code h (plays_on drained retries stop_at) (plays_on false 50 stop_at) (stops_on drained retries argument) (is_over _ refl)
command_in code argument l h (stops_on drained retries stop_at) = code_cases (λ c. InPlay (by_command c argument (life_in Stopping1 true drained retries stop_at))) code h (stops_on drained retries stop_at) (plays_on false 50 stop_at) (stops_on drained retries stop_at) (is_over _ refl)

either_in : (b : Bool) (s t : TrackKept) → InPlay s.life → InPlay t.life → InPlay (if b then s else t).life
either_in true s t h g = h
either_in false s t h g = g

-- the words of a look, and of those after it
look_words : (b : Bool) (code argument : ℕ) (words : List ℕ) → plain_words ((if b then code ∷ argument ∷ [] else []) ++ words) ≡ true → (b ≡ true → is_course_code code ≡ true) × (plain_words words ≡ true)
look_words true code argument words h = ((λ e. both_first (is_course_code code) (plain_words words) h), both_right (is_course_code code) (plain_words words) h)
look_words false code argument words h = ((λ e. no e), h)

look_in : (given : Option ℕ) (flush_seen : ℕ) (look : CommandLook) (s : TrackKept) → (shows_command look.seen ≡ true → is_course_code look.code ≡ true) → InPlay s.life → InPlay (after_look given flush_seen look s).life
unfolding after_look obeyed
look_in given flush_seen look s plain h = by (shows_command look.seen) plain
  where
    by : (b : Bool) → (b ≡ true → is_course_code look.code ≡ true) → InPlay (if b then obeyed given flush_seen look.code look.argument s else (if is_shut look.seen then ended s else s)).life
    by true p = let now = command_in look.code look.argument s.life (p refl) h in either_in (must_wait flush_seen look.code look.argument s.life) _ _ now now
    by false p = either_in (is_shut look.seen) (ended s) s (is_over _ refl) h

looks_in : (given : Option ℕ) (flush_seen : ℕ) (looks : List CommandLook) (s : TrackKept) → plain_words (words_taken looks) ≡ true → InPlay s.life → InPlay (after_looks given flush_seen looks s).life
looks_in given flush_seen [] s plain h = h
looks_in given flush_seen (look ∷ looks) s plain h =
    let t : TrackKept = after_look given flush_seen look s in
    let parts = look_words (shows_command look.seen) look.code look.argument (words_taken looks) plain in
    let now = look_in given flush_seen look s parts.0 h in
    either_in (goes_on look t) (after_looks given flush_seen looks t) t (looks_in given flush_seen looks t parts.1 now) now

pub commanded_in : (given : Option ℕ) (flush_seen : ℕ) (looks : List CommandLook) (s : TrackKept) → plain_words (words_taken looks) ≡ true → InPlay s.life → InPlay (commanded given flush_seen looks s).life
commanded_in given flush_seen looks s plain h = either_in (is_some s.awaits) s (after_looks given flush_seen looks s) h (looks_in given flush_seen looks s plain h)

shut_ends : (known : Known) (l : Life) → l.ended ≡ true → (by_report known l).ended ≡ true
unfolding by_report
shut_ends known l e = by known.shut
  where
    by : (b : Bool) → (by_report (record known { shut = b }) l).ended ≡ true
    by true = refl
    by false = ap (λ (b : Bool). (by_report (record known { shut = false }) (record l { ended = b })).ended) e

reported_in : (known : Known) (l : Life) → InPlay l → 2 ≤ l.retries → ((by_report (record known { shut = false }) l).ended ≡ true) ⊎ (plays (by_report (record known { shut = false }) l) ≡ true)
unfolding by_report
reported_in known l (is_over x e) two = inl (shut_ends (record known { shut = false }) l e)
reported_in known l (plays_on drained retries stop_at) two = inr (ap (λ (b : Bool). not b && true) (none_told known (life_in Active true drained retries stop_at) two))
reported_in known l (stops_on drained retries stop_at) two = inr (by (nat_le stop_at known.consumed))
  where
    by : (b : Bool) → plays (if b then record (life_in Stopping1 true drained retries stop_at) { state = Stopping2; drained = true } else life_in Stopping1 true drained retries stop_at) ≡ true
    by true = refl
    by false = refl

pub stays_in : (known : Known) (l : Life) → known.shut ≡ false → InPlay l → 2 ≤ l.retries → ((by_report known l).ended ≡ true) ⊎ (plays (by_report known l) ≡ true)
stays_in known l unshut h two = subst (λ (b : Bool). ((by_report (record known { shut = b }) l).ended ≡ true) ⊎ (plays (by_report (record known { shut = b }) l) ≡ true)) (sym unshut) (reported_in known l h two)
