-- What is left of a journal's text at a stage, and what a round's mark or a client's line before it adds.
use Rattle.std.proofs.Common.{◌≡◌, inl, ℕ, zero, suc, ◌+◌, ◌-◌, ◌*◌, ◌/◌, ◌%◌, ◌<◌, ◌≤◌, ◌^◌, List, [], ◌∷◌, ◌++◌, length, map, Option, Some, None, false, MatchOption, refl, ap, ◌∙◌, sym, arith, All, append_assoc}
use Rattle.af_journal.proofs.Common.{All-cons, All-nil, AreEntries, AreWords, ClientCall, EntrySeen, Frame, IsCommandLook, IsFrame, IsRound, IsTake, IsTurn, Push, RoundSeen, TakeSeen, TrackSeen, TracksRise, Turn, cast_signed, cast_unsigned, ended_turn, entries_of, flat_map, length-append, length-map, of_z-to_z, packed_word, w16}
use Rattle.std.proofs.Math.Facts.{sfits_to_z}
use Rattle.af_journal.specs.declared.line.Line.TheVariants as line
use Rattle.af_journal.specs.Lines.{Written, numbers, words}
use Rattle.af_journal.specs.Texts.{call_lines, client_lines, each_from, entry_lines, fast_lines, round_lines, take_lines, track_lines, turns_lines, words_after}

-- ## Lists

-- a list of so many equal items
abbrev pub many : {X : Type 0} → ℕ → X → List X
many zero x = []
many (suc n) x = x ∷ many n x

pub length-many : {X : Type 0} (n : ℕ) (x : X) → length (many n x) ≡ n
length-many zero x = refl
length-many (suc n) x = ap suc (length-many n x)

-- items that tell nothing stand before the others
pub pad : {X : Type 0} (f : ℕ → X → List Written) (x : X) → ((n : ℕ) → f n x ≡ []) → (n k : ℕ) (xs : List X) → each_from f n (many k x ++ xs) ≡ each_from f (n + k) xs
pad f x none n zero xs = ap (λ m. each_from f m xs) (let e : n ≡ n + 0 = omega arith in e)
pad f x none n (suc k) xs =
    ap (λ l. l ++ each_from f (n + 1) (many k x ++ xs)) (none n) ∙ pad f x none (n + 1) k xs ∙ ap (λ m. each_from f m xs) (let e : n + 1 + k ≡ n + suc k = omega arith in e)

pub pad_all : {X : Type 0} (f : ℕ → X → List Written) (x : X) → ((n : ℕ) → f n x ≡ []) → (n k : ℕ) → each_from f n (many k x) ≡ []
pad_all f x none n zero = refl
pad_all f x none n (suc k) = ap (λ l. l ++ each_from f (n + 1) (many k x)) (none n) ∙ pad_all f x none (n + 1) k

-- items that tell nothing stand before a place that lies so far behind
pub pad_to : {X : Type 0} (f : ℕ → X → List Written) (x : X) → ((n : ℕ) → f n x ≡ []) → (low n : ℕ) (xs : List X) → low ≤ n → each_from f low (many (n - low) x ++ xs) ≡ each_from f n xs
pad_to f x none low n xs h = pad f x none low (n - low) xs ∙ ap (λ m. each_from f m xs) (let e : low + (n - low) ≡ n = omega arith in e)

pub all-many : {X : Type 0} (P : X → Type 0) (n : ℕ) (x : X) (xs : List X) → P x → All P xs → All P (many n x ++ xs)
all-many P zero x xs p q = q
all-many P (suc n) x xs p q = All-cons P x (many n x ++ xs) p (all-many P n x xs p q)

-- ## Frames

-- the frame that a word holds
pub unpacked : ℕ → Frame
unpacked w = record { left = cast_signed w16 (w % 65536); right = cast_signed w16 (w / 65536) }

pub word_back : (w : ℕ) → w < 2 ^ 32 → w % 65536 % 256 + 256 * (w % 65536 / 256 % 256 + 256 * (w / 65536 % 256 + 256 * (w / 65536 / 256 % 256 + 256 * 0))) ≡ w
word_back w h = omega arith

pub packed-unpacked : (w : ℕ) → w < 2 ^ 32 → packed_word (unpacked w) ≡ w
unfolding unpacked
packed-unpacked w h =
    let low : cast_unsigned w16 (cast_signed w16 (w % 65536)) ≡ w % 65536 = of_z-to_z w16 (w % 65536) (omega arith) in
    let high : cast_unsigned w16 (cast_signed w16 (w / 65536)) ≡ w / 65536 = of_z-to_z w16 (w / 65536) (omega arith) in
    rw low (rw high (word_back w h))

pub unpacked-frame : (w : ℕ) → w < 2 ^ 32 → IsFrame (unpacked w)
unfolding unpacked
unpacked-frame w h = record { left = sfits_to_z (omega arith); right = sfits_to_z (omega arith) }

pub frames_of_words : List ℕ → List Frame
frames_of_words ws = map unpacked ws

pub words_back : (ws : List ℕ) → AreWords ws → map packed_word (frames_of_words ws) ≡ ws
unfolding frames_of_words
words_back [] fit = refl
words_back (w ∷ ws) fit = ap (λ v. v ∷ map packed_word (map unpacked ws)) (packed-unpacked w fit.0) ∙ ap (λ vs. w ∷ vs) (words_back ws fit.1)

pub are_frames : (ws : List ℕ) → AreWords ws → All IsFrame (frames_of_words ws)
unfolding frames_of_words
are_frames [] fit = All-nil IsFrame
are_frames (w ∷ ws) fit = All-cons IsFrame (unpacked w) (map unpacked ws) (unpacked-frame w fit.0) (are_frames ws fit.1)

pub count_frames : (ws : List ℕ) → length (frames_of_words ws) ≡ length ws
unfolding frames_of_words
count_frames ws = length-map ws unpacked

-- ## What is left of a text, by what may come

-- whole rounds
pub record RoundsLeft (tracks place : ℕ) (ws : List Written) : Type 0 where
  pub rounds : List RoundSeen
  pub form : All (IsRound tracks) rounds
  pub are : AreEntries place (entries_of rounds)
  pub lines : ws ≡ flat_map round_lines rounds

-- entries, and then rounds
pub record EntriesLeft (tracks place : ℕ) (ws : List Written) : Type 0 where
  pub es : List EntrySeen
  pub rounds : List RoundSeen
  pub form : All (IsRound tracks) rounds
  pub are : AreEntries place (es ++ entries_of rounds)
  pub lines : ws ≡ flat_map entry_lines es ++ flat_map round_lines rounds

-- entries, of which one is due, and then rounds
pub record EntriesDue (tracks place : ℕ) (ws : List Written) : Type 0 where
  pub e : EntrySeen
  pub es : List EntrySeen
  pub rounds : List RoundSeen
  pub form : All (IsRound tracks) rounds
  pub are : AreEntries place (e ∷ es ++ entries_of rounds)
  pub lines : ws ≡ entry_lines e ++ (flat_map entry_lines es ++ flat_map round_lines rounds)

-- entries with their mark, and then rounds
pub record FastLeft (tracks place : ℕ) (ws : List Written) : Type 0 where
  pub es : List EntrySeen
  pub rounds : List RoundSeen
  pub form : All (IsRound tracks) rounds
  pub are : AreEntries place (es ++ entries_of rounds)
  pub lines : ws ≡ fast_lines es ++ flat_map round_lines rounds

-- takes of tracks from low on, and what follows a turn
pub record TakesLeft (tracks low place : ℕ) (ws : List Written) : Type 0 where
  pub takes : List TakeSeen
  pub is : All (IsTake tracks) takes
  pub rise : TracksRise low takes
  pub rest : List Written
  pub fast : FastLeft tracks place rest
  pub lines : ws ≡ flat_map take_lines takes ++ rest

-- the words of a take, and then takes
pub record TakeLeft (tracks due low place : ℕ) (ws : List Written) : Type 0 where
  pub fs : List Frame
  pub count : length fs ≡ due
  pub are : All IsFrame fs
  pub rest : List Written
  pub takes : TakesLeft tracks low place rest
  pub lines : ws ≡ words_after (map packed_word fs) ++ rest

-- a push, and then takes
pub record PushLeft (tracks place : ℕ) (ws : List Written) : Type 0 where
  pub push : Push
  pub rest : List Written
  pub takes : TakesLeft tracks 0 place rest
  pub lines : ws ≡ numbers (line.Pushed push) ∷ rest

-- of the first track only some parts are left
abbrev pub HeadOk : ℕ → List TrackSeen → Type 0
HeadOk part [] = Unit {0}
HeadOk part (t ∷ ts) = (1 ≤ part → t.looks ≡ []) × (2 ≤ part → t.disabled ≡ false)

-- tracks from low on, and then a push
pub record TurnLeft (tracks low part place : ℕ) (ws : List Written) : Type 0 where
  pub ts : List TrackSeen
  pub count : length ts ≡ tracks - low
  pub looks : All (λ (t : TrackSeen). All IsCommandLook t.looks) ts
  pub head : HeadOk part ts
  pub rest : List Written
  pub push : PushLeft tracks place rest
  pub lines : ws ≡ each_from track_lines low ts ++ rest

-- the words of a look, and then the rest of its track
pub record LookLeft (tracks track place : ℕ) (ws : List Written) : Type 0 where
  pub code : ℕ
  pub argument : ℕ
  pub rest : List Written
  pub turn : TurnLeft tracks track 0 place rest
  pub lines : ws ≡ words (code ∷ argument ∷ []) ∷ rest

-- clients from low on, a turn, and what follows it
pub record ClientsLeft (tracks low place : ℕ) (ws : List Written) : Type 0 where
  pub clients : List (List ClientCall)
  pub count : length clients ≡ tracks - low
  pub turn : Option Turn
  pub is : MatchOption turn (Unit {0}) (IsTurn tracks)
  pub rest : List Written
  pub fast : FastLeft tracks place rest
  pub lines : ws ≡ each_from client_lines low clients ++ (turns_lines turn ++ rest)

-- calls, and then clients
pub record CallsLeft (tracks low place : ℕ) (ws : List Written) : Type 0 where
  pub calls : List ClientCall
  pub rest : List Written
  pub clients : ClientsLeft tracks low place rest
  pub lines : ws ≡ call_lines calls ++ rest

-- calls, of which one is due, and then clients
pub record CallDue (tracks low place : ℕ) (ws : List Written) : Type 0 where
  pub call : ClientCall
  pub calls : List ClientCall
  pub rest : List Written
  pub clients : ClientsLeft tracks low place rest
  pub lines : ws ≡ call_lines (call ∷ calls) ++ rest

-- ## A round and its parts

pub rounds_entries : (tracks place : ℕ) (ws : List Written) → RoundsLeft tracks place ws → EntriesLeft tracks place ws
rounds_entries tracks place ws r = record { es = []; rounds = r.rounds; form = r.form; are = r.are; lines = r.lines }

pub rounds_fast : (tracks place : ℕ) (ws : List Written) → RoundsLeft tracks place ws → FastLeft tracks place ws
rounds_fast tracks place ws r = record { es = []; rounds = r.rounds; form = r.form; are = r.are; lines = r.lines }

pub due_left : (tracks place : ℕ) (ws : List Written) → EntriesDue tracks place ws → EntriesLeft tracks place ws
due_left tracks place ws d = record { es = d.e ∷ d.es; rounds = d.rounds; form = d.form; are = d.are; lines = d.lines ∙ sym (append_assoc (entry_lines d.e) (flat_map entry_lines d.es) (flat_map round_lines d.rounds)) }

pub with_fast : (tracks place : ℕ) (ws : List Written) → EntriesDue tracks place ws → FastLeft tracks place (numbers line.Fast ∷ ws)
with_fast tracks place ws d = record {
  es = d.e ∷ d.es;
  rounds = d.rounds;
  form = d.form;
  are = d.are;
  lines = ap (λ l. numbers line.Fast ∷ l) (d.lines ∙ sym (append_assoc (entry_lines d.e) (flat_map entry_lines d.es) (flat_map round_lines d.rounds)));
}

pub with_round : (tracks place : ℕ) (ws : List Written) → ClientsLeft tracks 0 place ws → RoundsLeft tracks place (numbers line.Round ∷ ws)
with_round tracks place ws c =
    let r : RoundSeen = record { calls = c.clients; turn = c.turn; entries = c.fast.es } in
    let form : IsRound tracks r = record { calls = (let n = c.count in omega arith); turn = c.is } in
    let a = each_from client_lines 0 c.clients in let b = turns_lines c.turn in let f = fast_lines c.fast.es in let rest = flat_map round_lines c.fast.rounds in
    record {
      rounds = r ∷ c.fast.rounds;
      form = All-cons (IsRound tracks) r c.fast.rounds form c.fast.form;
      are = c.fast.are;
      lines = ap (λ l. numbers line.Round ∷ l) (c.lines ∙ ap (λ l. a ++ (b ++ l)) c.fast.lines ∙ sym (append_assoc a b (f ++ rest)) ∙ sym (append_assoc (a ++ b) f rest));
    }

-- ## Clients

pub clients_calls : (tracks low place : ℕ) (ws : List Written) → ClientsLeft tracks low place ws → CallsLeft tracks low place ws
clients_calls tracks low place ws c = record { calls = []; rest = ws; clients = c; lines = refl }

pub with_call : (tracks low place : ℕ) (ws : List Written) (call : ClientCall) → CallsLeft tracks low place ws → CallsLeft tracks low place (numbers (line.Call call) ∷ ws)
with_call tracks low place ws call c = record { calls = call ∷ c.calls; rest = c.rest; clients = c.clients; lines = ap (λ l. numbers (line.Call call) ∷ l) c.lines }

pub first_call : (tracks low place : ℕ) (ws : List Written) (call : ClientCall) → CallsLeft tracks low place ws → CallDue tracks low place (numbers (line.Call call) ∷ ws)
first_call tracks low place ws call c = record { call = call; calls = c.calls; rest = c.rest; clients = c.clients; lines = ap (λ l. numbers (line.Call call) ∷ l) c.lines }

pub no_clients : (n : ℕ) → client_lines n [] ≡ []
no_clients n = refl

pub with_client : (tracks low track place : ℕ) (ws : List Written) → low ≤ track → track < tracks → CallDue tracks (track + 1) place ws → ClientsLeft tracks low place (numbers (line.Client track) ∷ ws)
with_client tracks low track place ws h k d =
    let c = d.clients in
    let own = call_lines (d.call ∷ d.calls) in let others = each_from client_lines (track + 1) c.clients in let after = turns_lines c.turn ++ c.rest in
    record {
      clients = many (track - low) [] ++ (d.call ∷ d.calls) ∷ c.clients;
      count = (let a = length-append (many (track - low) []) ((d.call ∷ d.calls) ∷ c.clients) in let b = length-many {X = List ClientCall} (track - low) [] in let e = c.count in omega arith);
      turn = c.turn;
      is = c.is;
      rest = c.rest;
      fast = c.fast;
      lines = ap (λ l. numbers (line.Client track) ∷ l) (d.lines ∙ ap (λ l. own ++ l) c.lines ∙ sym (append_assoc own others after))
          ∙ ap (λ l. l ++ after) (sym (pad_to client_lines [] no_clients low track ((d.call ∷ d.calls) ∷ c.clients) h));
    }

pub fast_clients : (tracks low place : ℕ) (ws : List Written) → FastLeft tracks place ws → ClientsLeft tracks low place ws
fast_clients tracks low place ws f = record {
  clients = many (tracks - low) [];
  count = length-many {X = List ClientCall} (tracks - low) [];
  turn = None;
  is = tt;
  rest = ws;
  fast = f;
  lines = ap (λ l. l ++ ws) (sym (pad_all client_lines [] no_clients low (tracks - low)));
}

pub with_ended : (tracks low place : ℕ) (ws : List Written) → FastLeft tracks place ws → ClientsLeft tracks low place (numbers line.Ended ∷ ws)
with_ended tracks low place ws f = record {
  clients = many (tracks - low) [];
  count = length-many {X = List ClientCall} (tracks - low) [];
  turn = Some ended_turn;
  is = inl refl;
  rest = ws;
  fast = f;
  lines = ap (λ l. l ++ numbers line.Ended ∷ ws) (sym (pad_all client_lines [] no_clients low (tracks - low)));
}
