-- What a line of a turn adds to what is left of a journal's text.
use Rattle.std.proofs.Common.{◌≡◌, inr, ℕ, zero, suc, ◌+◌, ◌-◌, ◌<◌, ◌≤◌, List, [], ◌∷◌, ◌++◌, length, map, Some, None, Bool, true, false, refl, ap, ◌∙◌, sym, subst, arith, All, append_assoc, append-nil}
use Rattle.af_journal.proofs.Common.{All-cons, All-head, All-nil, All-tail, ClientCall, CommandLook, IsCommandLook, IsFrame, IsOpenTurn, IsSeen, IsTake, Push, Seen, TakeSeen, TrackSeen, Turn, count_seen, flat_map, length-append, nat_tests, packed_word}
use Rattle.af_base.specs.declared.seen.Seen.TheVariants as seen
use Rattle.af_journal.specs.declared.line.Line.TheVariants as line
use Rattle.af_journal.specs.Lines.{Written, numbers}
use Rattle.af_journal.specs.Ranges.{IsSeenText}
use Rattle.af_journal.specs.Stages.{comes}
use Rattle.af_journal.specs.Texts.{client_lines, disabled_lines, each_from, look_lines, status_lines, take_lines, track_lines, turn_lines, words_after}
use Rattle.af_journal.proofs.RoundsLeft.{many, length-many, pad_all, pad_to, all-many, TakesLeft, TakeLeft, PushLeft, HeadOk, TurnLeft, ClientsLeft, no_clients}

-- ## A turn

pub with_turn : (tracks low place room cycle : ℕ) (ack : Bool) (ws : List Written) → TurnLeft tracks 0 0 place ws → ClientsLeft tracks low place (numbers (line.Turn room ack cycle) ∷ ws)
with_turn tracks low place room cycle ack ws t =
    let k = t.push.takes in
    let e : Turn = record { ended = false; room = room; ack = ack; cycle = cycle; tracks = t.ts; push = t.push.push; mixes = k.takes } in
    let form : IsOpenTurn tracks e = record { open_is = refl; each = (let n = t.count in omega arith); looks = t.looks; takes = k.is; rise = k.rise } in
    let a = each_from track_lines 0 t.ts in let b = numbers (line.Pushed t.push.push) ∷ flat_map take_lines k.takes in
    record {
      clients = many (tracks - low) [];
      count = length-many {X = List ClientCall} (tracks - low) [];
      turn = Some e;
      is = inr form;
      rest = k.rest;
      fast = k.fast;
      lines = ap (λ l. numbers (line.Turn room ack cycle) ∷ l) (t.lines ∙ ap (λ l. a ++ l) (t.push.lines ∙ ap (λ l. numbers (line.Pushed t.push.push) ∷ l) k.lines) ∙ sym (append_assoc a b k.rest))
          ∙ ap (λ l. l ++ (turn_lines e ++ k.rest)) (sym (pad_all client_lines [] no_clients low (tracks - low)));
    }

-- a track of which nothing is told
abbrev pub no_track : TrackSeen
no_track = record { looks = []; status = None; disabled = false }

pub no_track_lines : (n : ℕ) → track_lines n no_track ≡ []
no_track_lines n = refl

pub no_looks : All IsCommandLook no_track.looks
no_looks = All-nil IsCommandLook

pub many_head : (part n : ℕ) → HeadOk part (many n no_track)
many_head part zero = tt
many_head part (suc n) = (λ _. refl, λ _. refl)

pub with_push : (tracks low part place : ℕ) (ws : List Written) (push : Push) → TakesLeft tracks 0 place ws → TurnLeft tracks low part place (numbers (line.Pushed push) ∷ ws)
with_push tracks low part place ws push k = record {
  ts = many (tracks - low) no_track;
  count = length-many (tracks - low) no_track;
  looks = subst (λ (l : List TrackSeen). All (λ (t : TrackSeen). All IsCommandLook t.looks) l) (append-nil (many (tracks - low) no_track)) (all-many (λ (t : TrackSeen). All IsCommandLook t.looks) (tracks - low) no_track [] no_looks (All-nil (λ (t : TrackSeen). All IsCommandLook t.looks)));
  head = many_head part (tracks - low);
  rest = numbers (line.Pushed push) ∷ ws;
  push = record { push = push; rest = ws; takes = k; lines = refl };
  lines = ap (λ l. l ++ numbers (line.Pushed push) ∷ ws) (sym (pad_all track_lines no_track no_track_lines low (tracks - low)));
}

-- what a part's line makes of the track that it tells of, if low, part come first
pub record Told (tracks low part track place : ℕ) (ws : List Written) : Type 0 where
  pub t : TrackSeen
  pub ts : List TrackSeen
  pub count : length ts ≡ tracks - (track + 1)
  pub own : All IsCommandLook t.looks
  pub looks : All (λ (t : TrackSeen). All IsCommandLook t.looks) ts
  pub head : low ≡ track → HeadOk part (t ∷ ts)
  pub rest : List Written
  pub push : PushLeft tracks place rest
  pub lines : ws ≡ each_from track_lines track (t ∷ ts) ++ rest

pub padded_head : (part k : ℕ) (t : TrackSeen) (ts : List TrackSeen) → (k ≡ 0 → HeadOk part (t ∷ ts)) → HeadOk part (many k no_track ++ t ∷ ts)
padded_head part zero t ts h = h refl
padded_head part (suc k) t ts h = (λ _. refl, λ _. refl)

pub told_left : (tracks low part track place : ℕ) (ws : List Written) → low ≤ track → track < tracks → Told tracks low part track place ws → TurnLeft tracks low part place ws
told_left tracks low part track place ws h k d = record {
  ts = many (track - low) no_track ++ d.t ∷ d.ts;
  count = (let a = length-append (many (track - low) no_track) (d.t ∷ d.ts) in let b = length-many (track - low) no_track in let e = d.count in omega arith);
  looks = all-many (λ (t : TrackSeen). All IsCommandLook t.looks) (track - low) no_track (d.t ∷ d.ts) no_looks (All-cons (λ (t : TrackSeen). All IsCommandLook t.looks) d.t d.ts d.own d.looks);
  head = padded_head part (track - low) d.t d.ts (λ z. d.head (omega arith));
  rest = d.rest;
  push = d.push;
  lines = d.lines ∙ ap (λ l. l ++ d.rest) (sym (pad_to track_lines no_track no_track_lines low track (d.t ∷ d.ts) h));
}

-- a part that comes, comes at a track from low on, and at low itself no sooner
pub comes_low : (track part low low_part : ℕ) → comes track part low low_part ≡ true → low ≤ track
comes_low track part low low_part e = grind (arith, nat_tests)

pub comes_part : (track part low low_part : ℕ) → comes track part low low_part ≡ true → low ≡ track → low_part ≤ part
comes_part track part low low_part e h = grind (arith, nat_tests)

-- the first of the tracks that are left, if there is one
pub record First (ts : List TrackSeen) : Type 0 where
  pub t : TrackSeen
  pub others : List TrackSeen
  pub is : ts ≡ t ∷ others

pub first_of : (ts : List TrackSeen) → 1 ≤ length ts → First ts
first_of [] h = absurd (omega arith)
first_of (t ∷ ts) h = record { t = t; others = ts; is = refl }

-- looks come first
pub look_more : (track : ℕ) (l : CommandLook) (t : TrackSeen) (ts : List TrackSeen)
    → look_lines track l ++ each_from track_lines track (t ∷ ts) ≡ each_from track_lines track (record t { looks = l ∷ t.looks } ∷ ts)
look_more track l t ts =
    let a = look_lines track l in let b = flat_map (look_lines track) t.looks in let d = disabled_lines track t.disabled in let s = status_lines track t.status in let r = each_from track_lines (track + 1) ts in
    sym (append_assoc a ((b ++ d) ++ s) r) ∙ ap (λ x. x ++ r) (sym (append_assoc a (b ++ d) s) ∙ ap (λ x. x ++ s) (sym (append_assoc a b d)))

pub with_look : (tracks low part track place : ℕ) (ws rest : List Written) (l : CommandLook) → comes track 0 low part ≡ true → track < tracks → IsCommandLook l → ws ≡ look_lines track l ++ rest → TurnLeft tracks track 0 place rest → TurnLeft tracks low part place ws
with_look tracks low part track place ws rest l c k is e t =
    let f = first_of t.ts (let n = t.count in omega arith) in
    let all = subst (λ (ts : List TrackSeen). All (λ (t : TrackSeen). All IsCommandLook t.looks) ts) f.is t.looks in
    let P : TrackSeen → Type 0 = λ t. All IsCommandLook t.looks in
    told_left tracks low part track place ws (comes_low track 0 low part c) k (record {
      t = record f.t { looks = l ∷ f.t.looks };
      ts = f.others;
      count = (let n = t.count in let m = ap length f.is in omega arith);
      own = All-cons IsCommandLook l f.t.looks is (All-head P f.t f.others all);
      looks = All-tail P f.t f.others all;
      head = λ h. let p = comes_part track 0 low part c h in (λ q. absurd (omega arith), λ q. absurd (omega arith));
      rest = t.rest;
      push = t.push;
      lines = e ∙ ap (λ x. look_lines track l ++ x) (t.lines ∙ ap (λ ts. each_from track_lines track ts ++ t.rest) f.is) ∙ sym (append_assoc (look_lines track l) (each_from track_lines track (f.t ∷ f.others)) t.rest)
          ∙ ap (λ x. x ++ t.rest) (look_more track l f.t f.others);
    })

pub disabled_more : (track : ℕ) (t : TrackSeen) (ts : List TrackSeen) → t.looks ≡ [] → t.disabled ≡ false
    → numbers (line.Disabled track) ∷ each_from track_lines track (t ∷ ts) ≡ each_from track_lines track (record { looks = []; status = t.status; disabled = true } ∷ ts)
disabled_more track t ts a b =
    ap (λ (p : List CommandLook). numbers (line.Disabled track) ∷ (((flat_map (look_lines track) p ++ disabled_lines track t.disabled) ++ status_lines track t.status) ++ each_from track_lines (track + 1) ts)) a
    ∙ ap (λ b. numbers (line.Disabled track) ∷ ((disabled_lines track b ++ status_lines track t.status) ++ each_from track_lines (track + 1) ts)) b

pub with_disabled : (tracks low part track place : ℕ) (ws : List Written) → comes track 1 low part ≡ true → track < tracks → TurnLeft tracks track 2 place ws → TurnLeft tracks low part place (numbers (line.Disabled track) ∷ ws)
with_disabled tracks low part track place ws c k t =
    let f = first_of t.ts (let n = t.count in omega arith) in
    let P : TrackSeen → Type 0 = λ t. All IsCommandLook t.looks in
    let all = subst (λ (ts : List TrackSeen). All P ts) f.is t.looks in
    let ok : HeadOk 2 (f.t ∷ f.others) = subst (HeadOk 2) f.is t.head in
    told_left tracks low part track place (numbers (line.Disabled track) ∷ ws) (comes_low track 1 low part c) k (record {
      t = record { looks = []; status = f.t.status; disabled = true };
      ts = f.others;
      count = (let n = t.count in let m = ap length f.is in omega arith);
      own = All-nil IsCommandLook;
      looks = All-tail P f.t f.others all;
      head = λ h. let p = comes_part track 1 low part c h in (λ _. refl, λ q. absurd (omega arith));
      rest = t.rest;
      push = t.push;
      lines = ap (λ x. numbers (line.Disabled track) ∷ x) (t.lines ∙ ap (λ ts. each_from track_lines track ts ++ t.rest) f.is) ∙ ap (λ x. x ++ t.rest) (disabled_more track f.t f.others (ok.0 (omega arith)) (ok.1 (omega arith)));
    })

pub with_status : (tracks low part track word place : ℕ) (ws : List Written) → comes track 2 low part ≡ true → track < tracks → TurnLeft tracks (track + 1) 0 place ws → TurnLeft tracks low part place (numbers (line.Status track word) ∷ ws)
with_status tracks low part track word place ws c k t =
    told_left tracks low part track place (numbers (line.Status track word) ∷ ws) (comes_low track 2 low part c) k (record {
      t = record { looks = []; status = Some word; disabled = false };
      ts = t.ts;
      count = t.count;
      own = All-nil IsCommandLook;
      looks = t.looks;
      head = λ h. (λ _. refl, λ _. refl);
      rest = t.rest;
      push = t.push;
      lines = ap (λ x. numbers (line.Status track word) ∷ x) t.lines;
    })

-- ## Takes

pub no_words : (tracks low place : ℕ) (ws : List Written) → TakesLeft tracks low place ws → TakeLeft tracks 0 low place ws
no_words tracks low place ws k = record { fs = []; count = refl; are = All-nil IsFrame; rest = ws; takes = k; lines = refl }

pub seen_is : (s : Seen) → IsSeenText s → IsSeen s
seen_is seen.Absent f = f
seen_is (seen.Frames n) f = f.0
seen_is _ f = tt

pub with_take : (tracks low track gains flush rear place : ℕ) (answer : Seen) (ws : List Written) → low ≤ track → track < tracks → IsSeen answer → TakeLeft tracks (count_seen answer) (track + 1) place ws
    → TakesLeft tracks low place (numbers (line.Take track gains flush rear answer) ∷ ws)
with_take tracks low track gains flush rear place answer ws h k s d =
    let t : TakeSeen = record { track = track; slot = record { gains = gains; flush = flush; rear = rear; seen = answer; first = 0 }; frames = d.fs } in
    let is : IsTake tracks t = record { track = k; look = s; first = refl; frames = d.count; samples = d.are } in
    let m = d.takes in
    record {
      takes = t ∷ m.takes;
      is = All-cons (IsTake tracks) t m.takes is m.is;
      rise = (h, m.rise);
      rest = m.rest;
      fast = m.fast;
      lines = ap (λ l. numbers (line.Take track gains flush rear answer) ∷ l) (d.lines ∙ ap (λ l. words_after (map packed_word d.fs) ++ l) m.lines ∙ sym (append_assoc (words_after (map packed_word d.fs)) (flat_map take_lines m.takes) m.rest));
    }
