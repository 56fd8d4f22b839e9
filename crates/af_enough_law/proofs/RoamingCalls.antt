-- A client that plays through sends no START after its STOP, whatever it is answered.
use Rattle.std.proofs.Common.{◌≡◌, ◌⊎◌, inl, inr, ℕ, zero, suc, ◌+◌, ◌-◌, ◌==◌, ◌&&◌, ◌||◌, nat_le, not, if◌then◌else◌, bit_and, Bool, true, false, Some, None, List, [], ◌∷◌, ◌++◌, length, take, fold, refl, sym, ap, ◌∙◌, subst, append-nil, eqb-true}
use Rattle.af_enough_law.proofs.Common.{Client, ClientCall, IsMade, IsWanted, LegalClientTurn, Op, Track, Want, after_answer, after_call, after_calls, at_next_turn, begun, both_first, both_right, both_true, commands_sent, is_clear, is_send, is_status, is_write, next_want, no, rest_of, rested, settled_in, some_same, state_in, wanted_of, with_call}
use Rattle.af_base.specs.declared.event.ClientCall.TheVariants as call
use Rattle.af_script.specs.declared.op.Op.TheVariants as op
use Rattle.af_runs.specs.declared.want.ClientCommand.TheVariants as command
use Rattle.af_runs.specs.declared.want.Mode.TheVariants as mode
use Rattle.af_runs.specs.declared.want.Want.TheVariants as want
use Rattle.af_enough_law.proofs.ClientWalk.{turn_keeps}
use Rattle.af_enough_law.proofs.Playing.{IsWay}
use Rattle.af_enough_law.proofs.EarlyCalls.{no_stop, held, begun_held, client_is}
use Rattle.af_enough_law.proofs.SentPlain.{even_words}
use Rattle.af_enough_law.proofs.Turning.{none_some}

-- ## Words

-- none of these commands is a START
abbrev pub no_start : List ℕ → Bool
no_start (code ∷ argument ∷ words) = not (code == 2) && no_start words
no_start _ = true

-- no START among these commands follows a STOP
abbrev pub ends_calm : List ℕ → Bool
ends_calm (code ∷ argument ∷ words) = if code == 4 then no_start words else ends_calm words
ends_calm _ = true

calm_none : (words : List ℕ) → no_stop words ≡ true → ends_calm words ≡ true
calm_none [] h = refl
calm_none (x ∷ []) h = refl
calm_none (code ∷ argument ∷ words) h = by (code == 4) (both_first (not (code == 4)) (no_stop words) h) (calm_none words (both_right (not (code == 4)) (no_stop words) h))
  where
    by : (b : Bool) → not b ≡ true → ends_calm words ≡ true → (if b then no_start words else ends_calm words) ≡ true
    by true n c = no n
    by false n c = c

-- a last command
stop_more : (xs : List ℕ) (code argument : ℕ) → even_words xs ≡ true → no_stop xs ≡ true → (code == 4) ≡ false → no_stop (xs ++ code ∷ argument ∷ []) ≡ true
stop_more [] code argument even none other = ap (λ (b : Bool). not b && true) other
stop_more (x ∷ []) code argument even none other = no even
stop_more (x ∷ y ∷ xs) code argument even none other = both_true (not (x == 4)) (no_stop (xs ++ code ∷ argument ∷ [])) (both_first (not (x == 4)) (no_stop xs) none) (stop_more xs code argument even (both_right (not (x == 4)) (no_stop xs) none) other)

start_more : (xs : List ℕ) (code argument : ℕ) → even_words xs ≡ true → no_start xs ≡ true → (code == 2) ≡ false → no_start (xs ++ code ∷ argument ∷ []) ≡ true
start_more [] code argument even none other = ap (λ (b : Bool). not b && true) other
start_more (x ∷ []) code argument even none other = no even
start_more (x ∷ y ∷ xs) code argument even none other = both_true (not (x == 2)) (no_start (xs ++ code ∷ argument ∷ [])) (both_first (not (x == 2)) (no_start xs) none) (start_more xs code argument even (both_right (not (x == 2)) (no_start xs) none) other)

calm_stop : (xs : List ℕ) (code argument : ℕ) → even_words xs ≡ true → no_stop xs ≡ true → ends_calm (xs ++ code ∷ argument ∷ []) ≡ true
calm_stop [] code argument even none = by (code == 4)
  where
    by : (b : Bool) → (if b then true else true) ≡ true
    by true = refl
    by false = refl
calm_stop (x ∷ []) code argument even none = no even
calm_stop (x ∷ y ∷ xs) code argument even none = by (x == 4) (both_first (not (x == 4)) (no_stop xs) none) (calm_stop xs code argument even (both_right (not (x == 4)) (no_stop xs) none))
  where
    by : (b : Bool) → not b ≡ true → ends_calm (xs ++ code ∷ argument ∷ []) ≡ true → (if b then no_start (xs ++ code ∷ argument ∷ []) else ends_calm (xs ++ code ∷ argument ∷ [])) ≡ true
    by true n rest = no n
    by false n rest = rest

calm_more : (xs : List ℕ) (code argument : ℕ) → even_words xs ≡ true → ends_calm xs ≡ true → (code == 2) ≡ false → ends_calm (xs ++ code ∷ argument ∷ []) ≡ true
calm_more [] code argument even calm other = by (code == 4)
  where
    by : (b : Bool) → (if b then true else true) ≡ true
    by true = refl
    by false = refl
calm_more (x ∷ []) code argument even calm other = no even
calm_more (x ∷ y ∷ xs) code argument even calm other = by (x == 4) calm (λ c. calm_more xs code argument even c other)
  where
    by : (b : Bool) → (if b then no_start xs else ends_calm xs) ≡ true → (ends_calm xs ≡ true → ends_calm (xs ++ code ∷ argument ∷ []) ≡ true) → (if b then no_start (xs ++ code ∷ argument ∷ []) else ends_calm (xs ++ code ∷ argument ∷ [])) ≡ true
    by true c rest = start_more xs code argument even c other
    by false c rest = rest c

pub calm_take : (n : ℕ) (words : List ℕ) → ends_calm words ≡ true → ends_calm (take n words) ≡ true
calm_take zero words h = refl
calm_take (suc n) [] h = refl
calm_take (suc zero) (code ∷ words) h = refl
calm_take (suc (suc n)) (code ∷ []) h = refl
calm_take (suc (suc n)) (code ∷ argument ∷ words) h = by (code == 4) h (calm_take n words)
  where
    start_take : (n : ℕ) (words : List ℕ) → no_start words ≡ true → no_start (take n words) ≡ true
    start_take zero words h = refl
    start_take (suc n) [] h = refl
    start_take (suc zero) (code ∷ words) h = refl
    start_take (suc (suc n)) (code ∷ []) h = refl
    start_take (suc (suc n)) (code ∷ argument ∷ words) h = both_true (not (code == 2)) (no_start (take n words)) (both_first (not (code == 2)) (no_start words) h) (start_take n words (both_right (not (code == 2)) (no_start words) h))

    by : (b : Bool) → (if b then no_start words else ends_calm words) ≡ true → (ends_calm words ≡ true → ends_calm (take n words) ≡ true) → (if b then no_start (take n words) else ends_calm (take n words)) ≡ true
    by true h rest = start_take n words h
    by false h rest = rest h

-- what follows words that have a STOP has no START
pub calm_rest : (xs ys : List ℕ) → even_words xs ≡ true → no_stop xs ≡ false → ends_calm (xs ++ ys) ≡ true → no_start ys ≡ true
calm_rest [] ys even stop h = no (sym stop)
calm_rest (x ∷ []) ys even stop h = no even
calm_rest (x ∷ y ∷ xs) ys even stop h = by (x == 4) stop h (calm_rest xs ys even)
  where
    start_rest : (xs ys : List ℕ) → even_words xs ≡ true → no_start (xs ++ ys) ≡ true → no_start ys ≡ true
    start_rest [] ys even h = h
    start_rest (x ∷ []) ys even h = no even
    start_rest (x ∷ y ∷ xs) ys even h = start_rest xs ys even (both_right (not (x == 2)) (no_start (xs ++ ys)) h)

    by : (b : Bool) → (not b && no_stop xs) ≡ false → (if b then no_start (xs ++ ys) else ends_calm (xs ++ ys)) ≡ true → (no_stop xs ≡ false → ends_calm (xs ++ ys) ≡ true → no_start ys ≡ true) → no_start ys ≡ true
    by true stop h rest = start_rest xs ys even h
    by false stop h rest = rest stop h

-- words have a STOP if some at their front or after it do
pub stop_front : (xs ys : List ℕ) → even_words xs ≡ true → no_stop xs ≡ false → no_stop (xs ++ ys) ≡ false
stop_front [] ys even stop = no (sym stop)
stop_front (x ∷ []) ys even stop = no even
stop_front (x ∷ y ∷ xs) ys even stop = by (not (x == 4)) stop (stop_front xs ys even)
  where
    by : (b : Bool) → (b && no_stop xs) ≡ false → (no_stop xs ≡ false → no_stop (xs ++ ys) ≡ false) → (b && no_stop (xs ++ ys)) ≡ false
    by true h rest = rest h
    by false h rest = refl

pub stop_behind : (xs ys : List ℕ) → even_words xs ≡ true → no_stop ys ≡ false → no_stop (xs ++ ys) ≡ false
stop_behind [] ys even stop = stop
stop_behind (x ∷ []) ys even stop = no even
stop_behind (x ∷ y ∷ xs) ys even stop = by (not (x == 4)) (stop_behind xs ys even stop)
  where
    by : (b : Bool) → no_stop (xs ++ ys) ≡ false → (b && no_stop (xs ++ ys)) ≡ false
    by true h = h
    by false h = refl

even_more : (xs : List ℕ) (code argument : ℕ) → even_words xs ≡ true → even_words (xs ++ code ∷ argument ∷ []) ≡ true
even_more [] code argument even = refl
even_more (x ∷ []) code argument even = no even
even_more (x ∷ y ∷ xs) code argument even = even_more xs code argument even

-- ## A client

-- what a roaming client still does, before its STOP and after it
pub data Roams : Client → Bool → Type 0 where
  opening : (w d : Bool) (ops : List Op) → IsWay 0 ops → Roams (held w d (want.Send command.Open ∷ []) (op.Start ∷ ops) mode.Idle) false
  starting : (w d : Bool) (ops : List Op) → IsWay 0 ops → Roams (held w d (want.Send command.Start ∷ want.Settled ∷ []) ops mode.Idle) false
  settling : (w d : Bool) (ops : List Op) → IsWay 0 ops → Roams (held w d (want.Settled ∷ []) ops mode.Active) false
  setting : (w d : Bool) (left right gains : ℕ) (ops : List Op) → IsWay gains ops → Roams (held w d (want.Gain left right ∷ []) ops mode.Active) false
  writing : (w d : Bool) (count : ℕ) (ops : List Op) → IsWay 0 ops → Roams (held w d (want.Write count ∷ []) ops mode.Active) false
  clearing : (w d : Bool) (ops : List Op) → IsWay 0 ops → Roams (held w d (want.Clear ∷ []) ops mode.Active) false
  clearing_more : (w d : Bool) (count : ℕ) (ops : List Op) → IsWay 0 ops → Roams (held w d (want.Clear ∷ want.Write count ∷ []) ops mode.Active) false
  again : (w d : Bool) (ops : List Op) → IsWay 0 ops → Roams (held w d (want.Send command.Start ∷ []) ops mode.Active) false
  again_more : (w d : Bool) (count : ℕ) (ops : List Op) → IsWay 0 ops → Roams (held w d (want.Send command.Start ∷ want.Write count ∷ []) ops mode.Active) false
  leaving : (w d : Bool) → Roams (held w d (want.Leave ∷ []) [] mode.Active) false
  stopping : (w d : Bool) → Roams (held w d (want.Send command.Stop ∷ []) (op.Drain ∷ op.Remove ∷ []) mode.Active) false
  draining : (w d : Bool) → Roams (held w d (want.Drained ∷ []) (op.Remove ∷ []) mode.Stopped) true
  removing : (w d : Bool) → Roams (held w d (want.Send command.Remove ∷ []) [] mode.Stopped) true
  done : (w d : Bool) → Roams (held w d [] [] mode.Stopped) true

-- the words that a roaming client has sent
abbrev pub said_well : Bool → List ℕ → Bool
said_well true words = ends_calm words
said_well false words = no_stop words

pub record IsRoaming (t : Track) : Type 0 where
  pub stopped : Bool
  pub client : Roams (begun t.client) stopped
  pub even : even_words t.commands.released ≡ true
  pub words : said_well stopped t.commands.released ≡ true

-- no START follows the STOP of a roaming client
pub roams_calm : (t : Track) → IsRoaming t → ends_calm t.commands.released ≡ true
roams_calm t r = by r.stopped r.words
  where
    by : (b : Bool) → said_well b t.commands.released ≡ true → ends_calm t.commands.released ≡ true
    by true h = h
    by false h = calm_none t.commands.released h

-- the first of the gains, the writes and the STOP
way_begins : (gains : ℕ) (ops : List Op) (w d : Bool) → IsWay gains ops → Roams (begun (held w d [] ops mode.Active)) false
way_begins gains (op.Gain left right ∷ ops) w d way = setting w d left right (gains + 1) ops way.1
way_begins gains (op.Write count ∷ ops) w d way = writing w d count ops way.1
way_begins gains (op.Stop ∷ op.Drain ∷ op.Remove ∷ []) w d way = stopping w d
way_begins gains [] w d way = absurd way
way_begins gains (op.OpenTrack ∷ ops) w d way = absurd way
way_begins gains (op.Start ∷ ops) w d way = absurd way
way_begins gains (op.Pause ∷ ops) w d way = absurd way
way_begins gains (op.Flush ∷ ops) w d way = absurd way
way_begins gains (op.Drain ∷ ops) w d way = absurd way
way_begins gains (op.Remove ∷ ops) w d way = absurd way
way_begins gains (op.Yield ∷ ops) w d way = absurd way
way_begins gains (op.Poke in_command word value ∷ ops) w d way = absurd way
way_begins gains (op.Stop ∷ []) w d way = absurd way
way_begins gains (op.Stop ∷ op.OpenTrack ∷ ops) w d way = absurd way
way_begins gains (op.Stop ∷ op.Start ∷ ops) w d way = absurd way
way_begins gains (op.Stop ∷ op.Pause ∷ ops) w d way = absurd way
way_begins gains (op.Stop ∷ op.Stop ∷ ops) w d way = absurd way
way_begins gains (op.Stop ∷ op.Flush ∷ ops) w d way = absurd way
way_begins gains (op.Stop ∷ op.Remove ∷ ops) w d way = absurd way
way_begins gains (op.Stop ∷ op.Yield ∷ ops) w d way = absurd way
way_begins gains (op.Stop ∷ op.Gain left right ∷ ops) w d way = absurd way
way_begins gains (op.Stop ∷ op.Write count ∷ ops) w d way = absurd way
way_begins gains (op.Stop ∷ op.Poke in_command word value ∷ ops) w d way = absurd way
way_begins gains (op.Stop ∷ op.Drain ∷ []) w d way = absurd way
way_begins gains (op.Stop ∷ op.Drain ∷ op.OpenTrack ∷ ops) w d way = absurd way
way_begins gains (op.Stop ∷ op.Drain ∷ op.Start ∷ ops) w d way = absurd way
way_begins gains (op.Stop ∷ op.Drain ∷ op.Pause ∷ ops) w d way = absurd way
way_begins gains (op.Stop ∷ op.Drain ∷ op.Stop ∷ ops) w d way = absurd way
way_begins gains (op.Stop ∷ op.Drain ∷ op.Flush ∷ ops) w d way = absurd way
way_begins gains (op.Stop ∷ op.Drain ∷ op.Drain ∷ ops) w d way = absurd way
way_begins gains (op.Stop ∷ op.Drain ∷ op.Yield ∷ ops) w d way = absurd way
way_begins gains (op.Stop ∷ op.Drain ∷ op.Gain left right ∷ ops) w d way = absurd way
way_begins gains (op.Stop ∷ op.Drain ∷ op.Write count ∷ ops) w d way = absurd way
way_begins gains (op.Stop ∷ op.Drain ∷ op.Poke in_command word value ∷ ops) w d way = absurd way
way_begins gains (op.Stop ∷ op.Drain ∷ op.Remove ∷ o ∷ ops) w d way = absurd way

-- ## Answers

data SendAnswer (code : ℕ) : ClientCall → Type 0 where
  sent : (front argument : ℕ) → SendAnswer code (call.Sent front code argument)
  full : (front : ℕ) → SendAnswer code (call.SendFull front)
  dead : (flags : ℕ) → SendAnswer code (call.SendDead flags)
  corrupt : (front rear : ℕ) → SendAnswer code (call.SendCorrupt front rear)

send_answer : (code argument : ℕ) (answer : ClientCall) → is_send code argument answer ≡ true → SendAnswer code answer
send_answer code argument (call.Sent front c a) h = subst (λ (x : ℕ). SendAnswer code (call.Sent front x a)) (sym (eqb-true c code (both_first (c == code) (a == argument) h))) (sent front a)
send_answer code argument (call.SendFull front) h = full front
send_answer code argument (call.SendDead flags) h = dead flags
send_answer code argument (call.SendCorrupt front rear) h = corrupt front rear
send_answer code argument _ h = no h

data WriteAnswer : ClientCall → Type 0 where
  put : (front count : ℕ) → WriteAnswer (call.Put front count)
  filled : (front : ℕ) → WriteAnswer (call.Full front)
  died : (flags : ℕ) → WriteAnswer (call.Dead flags)
  broke : (front rear : ℕ) → WriteAnswer (call.Corrupt front rear)

write_answer : (answer : ClientCall) → is_write answer ≡ true → WriteAnswer answer
write_answer (call.Put front count) h = put front count
write_answer (call.Full front) h = filled front
write_answer (call.Dead flags) h = died flags
write_answer (call.Corrupt front rear) h = broke front rear
write_answer _ h = no h

data StatusAnswer : ClientCall → Type 0 where
  status : (word : ℕ) → StatusAnswer (call.Status word)

status_answer : (answer : ClientCall) → is_status answer ≡ true → StatusAnswer answer
status_answer (call.Status word) h = status word
status_answer _ h = no h

data ClearAnswer : ClientCall → Type 0 where
  cleared : (flags : ℕ) → ClearAnswer (call.Cleared flags)

clear_answer : (answer : ClientCall) → is_clear answer ≡ true → ClearAnswer answer
clear_answer (call.Cleared flags) h = cleared flags
clear_answer _ h = no h

-- ## A call

-- what a call leaves: such a client, and such words
record After (words : List ℕ) (c : Client) (later : List ℕ) : Type 0 where
  stopped : Bool
  client : Roams (begun c) stopped
  even : even_words later ≡ true
  said : said_well stopped later ≡ true

after_same : (words : List ℕ) (c : Client) (stopped : Bool) → Roams (begun c) stopped → even_words words ≡ true → said_well stopped words ≡ true → After words c (words ++ [])
after_same words c stopped r even said = record { stopped = stopped; client = r; even = ap even_words (append-nil words) ∙ even; said = ap (said_well stopped) (append-nil words) ∙ said }

after_still : (words : List ℕ) (c : Client) (stopped : Bool) → Roams (begun c) stopped → even_words words ≡ true → said_well stopped words ≡ true → After words c words
after_still words c stopped r even said = record { stopped = stopped; client = r; even = even; said = said }

after_sent : (words : List ℕ) (code argument : ℕ) (c : Client) → Roams (begun c) false → even_words words ≡ true → no_stop words ≡ true → (code == 4) ≡ false → After words c (words ++ code ∷ argument ∷ [])
after_sent words code argument c r even said other = record { stopped = false; client = r; even = even_more words code argument even; said = stop_more words code argument even said other }

-- the words that a call leaves
abbrev said_by : Track → ClientCall → List ℕ
said_by t answer = (after_call t answer).commands.released

more_roams : (none : Bool) (left : ℕ) (w d : Bool) (ops : List Op) → IsWay 0 ops → Roams (begun (held w d (want.Clear ∷ (if none then [] else want.Write left ∷ [])) ops mode.Active)) false
more_roams true left w d ops way = clearing w d ops way
more_roams false left w d ops way = clearing_more w d left ops way

settles : (over enough : Bool) (w d : Bool) (ops : List Op) → IsWay 0 ops → Roams (begun (if over then held w true (want.Settled ∷ []) ops mode.Active else if enough && true then held w d [] ops mode.Active else held true d (want.Settled ∷ []) ops mode.Active)) false
settles true enough w d ops way = settling w true ops way
settles false true w d ops way = way_begins 0 ops w d way
settles false false w d ops way = settling true d ops way

drains : (over enough : Bool) (w d : Bool) → Roams (begun (if over then held w true (want.Drained ∷ []) (op.Remove ∷ []) mode.Stopped else if enough then held w d [] (op.Remove ∷ []) mode.Stopped else held true d (want.Drained ∷ []) (op.Remove ∷ []) mode.Stopped)) true
drains true enough w d = draining w true
drains false true w d = removing w d
drains false false w d = draining true d

clears : (calm : Bool) (w d : Bool) (ops : List Op) → IsWay 0 ops → Roams (begun (held w d (if calm then [] else want.Send command.Start ∷ []) ops mode.Active)) false
clears true w d ops way = way_begins 0 ops w d way
clears false w d ops way = again w d ops way

clears_more : (calm : Bool) (w d : Bool) (count : ℕ) (ops : List Op) → IsWay 0 ops → Roams (begun (held w d (if calm then want.Write count ∷ [] else want.Send command.Start ∷ want.Write count ∷ []) ops mode.Active)) false
clears_more true w d count ops way = writing w d count ops way
clears_more false w d count ops way = again_more w d count ops way

-- what is asked first
first : (halted : Bool) (w x : Want) → (if halted then None else Some x) ≡ Some w → w ≡ x
first true w x e = none_some None w refl e
first false w x e = some_same w x (sym e)

module _ (t : Track) (n : ℕ) (even : even_words t.commands.released ≡ true) where
  -- what each answer makes of the client, by what is wanted
  roam_send : (c : Client) (answer : ClientCall) → Roams c false → no_stop t.commands.released ≡ true → (w : Want) → next_want c ≡ Some w → IsWanted t w answer → After t.commands.released (after_answer n w (rest_of c.due) c answer) (said_by t answer)
  roam_send _ answer (opening x d ops way) said w wants made = subst (λ (v : Want). After t.commands.released (after_answer n v [] (held x d (want.Send command.Open ∷ []) (op.Start ∷ ops) mode.Idle) answer) (said_by t answer)) (sym same) (by (send_answer 1 _ answer (subst (λ (v : Want). IsWanted t v answer) same made)))
    where
      same : w ≡ want.Send command.Open
      same = first (x || d) w (want.Send command.Open) wants

      by : {answer : ClientCall} → SendAnswer 1 answer → After t.commands.released (after_answer n (want.Send command.Open) [] (held x d (want.Send command.Open ∷ []) (op.Start ∷ ops) mode.Idle) answer) (said_by t answer)
      by (sent front argument) = after_sent t.commands.released 1 argument _ (starting x d ops way) even said refl
      by (full front) = after_same t.commands.released _ false (opening true d ops way) even said
      by (dead flags) = after_same t.commands.released _ false (opening x true ops way) even said
      by (corrupt front rear) = after_same t.commands.released _ false (opening x true ops way) even said
  roam_send _ answer (starting x d ops way) said w wants made = subst (λ (v : Want). After t.commands.released (after_answer n v (want.Settled ∷ []) (held x d (want.Send command.Start ∷ want.Settled ∷ []) ops mode.Idle) answer) (said_by t answer)) (sym same) (by (send_answer 2 _ answer (subst (λ (v : Want). IsWanted t v answer) same made)))
    where
      same : w ≡ want.Send command.Start
      same = first (x || d) w (want.Send command.Start) wants

      by : {answer : ClientCall} → SendAnswer 2 answer → After t.commands.released (after_answer n (want.Send command.Start) (want.Settled ∷ []) (held x d (want.Send command.Start ∷ want.Settled ∷ []) ops mode.Idle) answer) (said_by t answer)
      by (sent front argument) = after_sent t.commands.released 2 argument _ (settling x d ops way) even said refl
      by (full front) = after_same t.commands.released _ false (starting true d ops way) even said
      by (dead flags) = after_same t.commands.released _ false (starting x true ops way) even said
      by (corrupt front rear) = after_same t.commands.released _ false (starting x true ops way) even said
  roam_send _ answer (settling x d ops way) said w wants made = subst (λ (v : Want). After t.commands.released (after_answer n v [] (held x d (want.Settled ∷ []) ops mode.Active) answer) (said_by t answer)) (sym same) (by (status_answer answer (subst (λ (v : Want). IsWanted t v answer) same made)))
    where
      same : w ≡ want.Settled
      same = first (x || d) w want.Settled wants

      by : {answer : ClientCall} → StatusAnswer answer → After t.commands.released (after_answer n want.Settled [] (held x d (want.Settled ∷ []) ops mode.Active) answer) (said_by t answer)
      by (status word) = after_same t.commands.released _ false (settles (state_in word == 15) (nat_le n (settled_in word)) x d ops way) even said
  roam_send _ answer (setting x d left right gains ops way) said w wants made = subst (λ (v : Want). After t.commands.released (after_answer n v [] (held x d (want.Gain left right ∷ []) ops mode.Active) answer) (said_by t answer)) (sym same)
      (subst (λ (a : ClientCall). After t.commands.released (after_answer n (want.Gain left right) [] (held x d (want.Gain left right ∷ []) ops mode.Active) a) (said_by t a)) (sym (subst (λ (v : Want). IsWanted t v answer) same made)) (after_still t.commands.released _ false (way_begins gains ops x d way) even said))
    where
      same : w ≡ want.Gain left right
      same = first (x || d) w (want.Gain left right) wants
  roam_send _ answer (writing x d count ops way) said w wants made = subst (λ (v : Want). After t.commands.released (after_answer n v [] (held x d (want.Write count ∷ []) ops mode.Active) answer) (said_by t answer)) (sym same) (by (write_answer answer (subst (λ (v : Want). IsWanted t v answer) same made)))
    where
      same : w ≡ want.Write count
      same = first (x || d) w (want.Write count) wants

      by : {answer : ClientCall} → WriteAnswer answer → After t.commands.released (after_answer n (want.Write count) [] (held x d (want.Write count ∷ []) ops mode.Active) answer) (said_by t answer)
      by (put front k) = after_still t.commands.released _ false (more_roams ((count - k) == 0) (count - k) x d ops way) even said
      by (filled front) = after_still t.commands.released _ false (writing true d count ops way) even said
      by (died flags) = after_still t.commands.released _ false (leaving x d) even said
      by (broke front rear) = after_still t.commands.released _ false (leaving x d) even said
  roam_send _ answer (clearing x d ops way) said w wants made = subst (λ (v : Want). After t.commands.released (after_answer n v [] (held x d (want.Clear ∷ []) ops mode.Active) answer) (said_by t answer)) (sym same) (by (clear_answer answer (subst (λ (v : Want). IsWanted t v answer) same made)))
    where
      same : w ≡ want.Clear
      same = first (x || d) w want.Clear wants

      by : {answer : ClientCall} → ClearAnswer answer → After t.commands.released (after_answer n want.Clear [] (held x d (want.Clear ∷ []) ops mode.Active) answer) (said_by t answer)
      by (cleared flags) = after_still t.commands.released _ false (clears (bit_and flags 8 == 0) x d ops way) even said
  roam_send _ answer (clearing_more x d count ops way) said w wants made = subst (λ (v : Want). After t.commands.released (after_answer n v (want.Write count ∷ []) (held x d (want.Clear ∷ want.Write count ∷ []) ops mode.Active) answer) (said_by t answer)) (sym same) (by (clear_answer answer (subst (λ (v : Want). IsWanted t v answer) same made)))
    where
      same : w ≡ want.Clear
      same = first (x || d) w want.Clear wants

      by : {answer : ClientCall} → ClearAnswer answer → After t.commands.released (after_answer n want.Clear (want.Write count ∷ []) (held x d (want.Clear ∷ want.Write count ∷ []) ops mode.Active) answer) (said_by t answer)
      by (cleared flags) = after_still t.commands.released _ false (clears_more (bit_and flags 8 == 0) x d count ops way) even said
  roam_send _ answer (again x d ops way) said w wants made = subst (λ (v : Want). After t.commands.released (after_answer n v [] (held x d (want.Send command.Start ∷ []) ops mode.Active) answer) (said_by t answer)) (sym same) (by (send_answer 2 _ answer (subst (λ (v : Want). IsWanted t v answer) same made)))
    where
      same : w ≡ want.Send command.Start
      same = first (x || d) w (want.Send command.Start) wants

      by : {answer : ClientCall} → SendAnswer 2 answer → After t.commands.released (after_answer n (want.Send command.Start) [] (held x d (want.Send command.Start ∷ []) ops mode.Active) answer) (said_by t answer)
      by (sent front argument) = after_sent t.commands.released 2 argument _ (way_begins 0 ops x d way) even said refl
      by (full front) = after_same t.commands.released _ false (again true d ops way) even said
      by (dead flags) = after_same t.commands.released _ false (again x true ops way) even said
      by (corrupt front rear) = after_same t.commands.released _ false (again x true ops way) even said
  roam_send _ answer (again_more x d count ops way) said w wants made = subst (λ (v : Want). After t.commands.released (after_answer n v (want.Write count ∷ []) (held x d (want.Send command.Start ∷ want.Write count ∷ []) ops mode.Active) answer) (said_by t answer)) (sym same) (by (send_answer 2 _ answer (subst (λ (v : Want). IsWanted t v answer) same made)))
    where
      same : w ≡ want.Send command.Start
      same = first (x || d) w (want.Send command.Start) wants

      by : {answer : ClientCall} → SendAnswer 2 answer → After t.commands.released (after_answer n (want.Send command.Start) (want.Write count ∷ []) (held x d (want.Send command.Start ∷ want.Write count ∷ []) ops mode.Active) answer) (said_by t answer)
      by (sent front argument) = after_sent t.commands.released 2 argument _ (writing x d count ops way) even said refl
      by (full front) = after_same t.commands.released _ false (again_more true d count ops way) even said
      by (dead flags) = after_same t.commands.released _ false (again_more x true count ops way) even said
      by (corrupt front rear) = after_same t.commands.released _ false (again_more x true count ops way) even said
  roam_send _ answer (leaving x d) said w wants made = subst (λ (v : Want). After t.commands.released (after_answer n v [] (held x d (want.Leave ∷ []) [] mode.Active) answer) (said_by t answer)) (sym same) (by (send_answer 6 0 answer (subst (λ (v : Want). IsWanted t v answer) same made)))
    where
      same : w ≡ want.Leave
      same = first (x || d) w want.Leave wants

      by : {answer : ClientCall} → SendAnswer 6 answer → After t.commands.released (after_answer n want.Leave [] (held x d (want.Leave ∷ []) [] mode.Active) answer) (said_by t answer)
      by (sent front argument) = after_sent t.commands.released 6 argument _ (leaving x true) even said refl
      by (full front) = after_same t.commands.released _ false (leaving x true) even said
      by (dead flags) = after_same t.commands.released _ false (leaving x true) even said
      by (corrupt front rear) = after_same t.commands.released _ false (leaving x true) even said
  roam_send _ answer (stopping x d) said w wants made = subst (λ (v : Want). After t.commands.released (after_answer n v [] (held x d (want.Send command.Stop ∷ []) (op.Drain ∷ op.Remove ∷ []) mode.Active) answer) (said_by t answer)) (sym same) (by (send_answer 4 _ answer (subst (λ (v : Want). IsWanted t v answer) same made)))
    where
      same : w ≡ want.Send command.Stop
      same = first (x || d) w (want.Send command.Stop) wants

      by : {answer : ClientCall} → SendAnswer 4 answer → After t.commands.released (after_answer n (want.Send command.Stop) [] (held x d (want.Send command.Stop ∷ []) (op.Drain ∷ op.Remove ∷ []) mode.Active) answer) (said_by t answer)
      by (sent front argument) = record { stopped = true; client = draining x d; even = even_more t.commands.released 4 argument even; said = calm_stop t.commands.released 4 argument even said }
      by (full front) = after_same t.commands.released _ false (stopping true d) even said
      by (dead flags) = after_same t.commands.released _ false (stopping x true) even said
      by (corrupt front rear) = after_same t.commands.released _ false (stopping x true) even said

  roam_stopped : (c : Client) (answer : ClientCall) → Roams c true → ends_calm t.commands.released ≡ true → (w : Want) → next_want c ≡ Some w → IsWanted t w answer → After t.commands.released (after_answer n w (rest_of c.due) c answer) (said_by t answer)
  roam_stopped _ answer (draining x d) said w wants made = subst (λ (v : Want). After t.commands.released (after_answer n v [] (held x d (want.Drained ∷ []) (op.Remove ∷ []) mode.Stopped) answer) (said_by t answer)) (sym same) (by (status_answer answer (subst (λ (v : Want). IsWanted t v answer) same made)))
    where
      same : w ≡ want.Drained
      same = first (x || d) w want.Drained wants

      by : {answer : ClientCall} → StatusAnswer answer → After t.commands.released (after_answer n want.Drained [] (held x d (want.Drained ∷ []) (op.Remove ∷ []) mode.Stopped) answer) (said_by t answer)
      by (status word) = after_same t.commands.released _ true (drains (state_in word == 15) (nat_le n (settled_in word) && (false || (state_in word == 8))) x d) even said
  roam_stopped _ answer (removing x d) said w wants made = subst (λ (v : Want). After t.commands.released (after_answer n v [] (held x d (want.Send command.Remove ∷ []) [] mode.Stopped) answer) (said_by t answer)) (sym same) (by (send_answer 6 _ answer (subst (λ (v : Want). IsWanted t v answer) same made)))
    where
      same : w ≡ want.Send command.Remove
      same = first (x || d) w (want.Send command.Remove) wants

      by : {answer : ClientCall} → SendAnswer 6 answer → After t.commands.released (after_answer n (want.Send command.Remove) [] (held x d (want.Send command.Remove ∷ []) [] mode.Stopped) answer) (said_by t answer)
      by (sent front argument) = record { stopped = true; client = done x true; even = even_more t.commands.released 6 argument even; said = calm_more t.commands.released 6 argument even said refl }
      by (full front) = after_same t.commands.released _ true (removing true d) even said
      by (dead flags) = after_same t.commands.released _ true (removing x true) even said
      by (corrupt front rear) = after_same t.commands.released _ true (removing x true) even said
  roam_stopped _ answer (done x d) said w wants made = none_some None w refl (nothing (x || d) wants)
    where
      nothing : (b : Bool) → (if b then None else None) ≡ Some w → None ≡ Some w
      nothing true e = e
      nothing false e = e

roam_call : (t : Track) (w : Want) (answer : ClientCall) → IsRoaming t → wanted_of t ≡ Some w → IsMade t w answer → IsRoaming (after_call t answer)
roam_call t w answer r wanted made = by r.stopped r.client r.words
  where
    made_of : After t.commands.released (after_answer (commands_sent (with_call t answer)) w (rest_of (begun t.client).due) (begun t.client) answer) (said_by t answer) → IsRoaming (after_call t answer)
    made_of a = record { stopped = a.stopped; client = subst (λ (c : Client). Roams (begun c) a.stopped) (sym (client_is t w answer wanted)) a.client; even = a.even; words = a.said }

    by : (b : Bool) → Roams (begun t.client) b → said_well b t.commands.released ≡ true → IsRoaming (after_call t answer)
    by true client said = made_of (roam_stopped t (commands_sent (with_call t answer)) r.even (begun t.client) answer client said w wanted made.0)
    by false client said = made_of (roam_send t (commands_sent (with_call t answer)) r.even (begun t.client) answer client said w wanted made.0)

-- ## A turn

held_roams : (c : Client) (b w d : Bool) → Roams c b → Roams (record c { waiting = w; ended = d }) b
held_roams _ _ w d (opening x y ops way) = opening w d ops way
held_roams _ _ w d (starting x y ops way) = starting w d ops way
held_roams _ _ w d (settling x y ops way) = settling w d ops way
held_roams _ _ w d (setting x y left right gains ops way) = setting w d left right gains ops way
held_roams _ _ w d (writing x y count ops way) = writing w d count ops way
held_roams _ _ w d (clearing x y ops way) = clearing w d ops way
held_roams _ _ w d (clearing_more x y count ops way) = clearing_more w d count ops way
held_roams _ _ w d (again x y ops way) = again w d ops way
held_roams _ _ w d (again_more x y count ops way) = again_more w d count ops way
held_roams _ _ w d (leaving x y) = leaving w d
held_roams _ _ w d (stopping x y) = stopping w d
held_roams _ _ w d (draining x y) = draining w d
held_roams _ _ w d (removing x y) = removing w d
held_roams _ _ w d (done x y) = done w d

roams_held : (c : Client) (b w d : Bool) → Roams (begun c) b → Roams (begun (record c { waiting = w; ended = d })) b
roams_held c b w d e = subst (λ (x : Client). Roams x b) (sym (begun_held c w d c.due c.ops)) (held_roams (begun c) b w d e)

roams_rested : (c : Client) (b : Bool) → Roams c b → Roams (begun (record c { due = rested c.due })) b
roams_rested _ _ (opening x y ops way) = opening x y ops way
roams_rested _ _ (starting x y ops way) = starting x y ops way
roams_rested _ _ (settling x y ops way) = settling x y ops way
roams_rested _ _ (setting x y left right gains ops way) = setting x y left right gains ops way
roams_rested _ _ (writing x y count ops way) = writing x y count ops way
roams_rested _ _ (clearing x y ops way) = clearing x y ops way
roams_rested _ _ (clearing_more x y count ops way) = clearing_more x y count ops way
roams_rested _ _ (again x y ops way) = again x y ops way
roams_rested _ _ (again_more x y count ops way) = again_more x y count ops way
roams_rested _ _ (leaving x y) = leaving x y
roams_rested _ _ (stopping x y) = stopping x y
roams_rested _ _ (draining x y) = draining x y
roams_rested _ _ (removing x y) = removing x y
roams_rested _ _ (done x y) = done x y

either_roams : (b : Bool) (x y : Client) (k : Bool) → Roams (begun x) k → Roams (begun y) k → Roams (begun (if b then x else y)) k
either_roams true x y k e f = e
either_roams false x y k e f = f

next_roams : (t : Track) (cut : Bool) → IsRoaming t → IsRoaming (record t { client = at_next_turn cut t.client })
next_roams t cut e = record {
  stopped = e.stopped;
  client = either_roams (t.client.waiting || t.client.ended || cut) (record t.client { waiting = false }) (record (begun t.client) { due = rested (begun t.client).due }) e.stopped (roams_held t.client e.stopped false t.client.ended e.client) (roams_rested (begun t.client) e.stopped e.client);
  even = e.even;
  words = e.words;
}

-- a legal turn of a client leaves it roaming
pub turn_roams : (t : Track) (calls : List ClientCall) → LegalClientTurn t calls → IsRoaming t → IsRoaming (after_calls t calls)
turn_roams t calls legal h = next_roams (fold after_call t calls) (length calls == 64) (turn_keeps IsRoaming roam_call t calls legal h)

-- the end of a client leaves it roaming
pub met_roams : (t u : Track) → u.commands.released ≡ t.commands.released → (u.client ≡ t.client) ⊎ (u.client ≡ record t.client { ended = true }) → IsRoaming t → IsRoaming u
met_roams t u words same e = record { stopped = e.stopped; client = by same; even = ap even_words words ∙ e.even; words = ap (said_well e.stopped) words ∙ e.words }
  where
    by : (u.client ≡ t.client) ⊎ (u.client ≡ record t.client { ended = true }) → Roams (begun u.client) e.stopped
    by (inl is) = subst (λ (c : Client). Roams (begun c) e.stopped) (sym is) e.client
    by (inr is) = subst (λ (c : Client). Roams (begun c) e.stopped) (sym is) (roams_held t.client e.stopped t.client.waiting true e.client)
