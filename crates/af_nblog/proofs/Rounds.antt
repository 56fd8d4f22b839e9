-- A round more: both ends' turns, and the meeting behind them.
use Rattle.std.proofs.Common.{◌≡◌, ℕ, zero, suc, ◌+◌, ◌*◌, ◌≤◌, max, Bool, true, List, [], ◌∷◌, ◌++◌, length, take, refl, sym, ap, ◌∙◌, subst, arith, append_assoc}
use Rattle.af_nblog.proofs.Common.{ClientEvent, ClientPart, ClientSide, ServerEvent, ServerPart, ServerSide, Shape, and_parts, list_all, list_all-append, new_client, new_server}
use Rattle.std.proofs.Math.Seq.{take-append_seam}
use Rattle.af_base.specs.declared.event.ClientEvent.TheVariants as client
use Rattle.af_base.specs.declared.event.ServerEvent.TheVariants as server
use Rattle.af_nblog.proofs.Basics.{last_of}
use Rattle.af_nblog.specs.declared.entries.Note.{Note}
use Rattle.af_nblog.specs.Notes.{notes_in}
use Rattle.af_nblog.specs.NoteEnds.{WriterState, ReaderState, accepted, read}
use Rattle.af_nblog.specs.NoteFronts.{takes_note, read_in, SeesRead}
use Rattle.af_nblog.specs.NoteRears.{put_in, SeesPut}
use Rattle.af_nblog.specs.NoteRounds.{count_accepted, RefusesLate, EachRefusesLate, HasNoted, HasDrained, told_reads, told_puts, last_accepted, AreCounted, IsBetween}
use Rattle.af_nblog.proofs.Spelling.{none_spelled}
use Rattle.af_nblog.proofs.Fronts.{is_eight, read_in-append}
use Rattle.af_nblog.proofs.Rears.{put_in-append}
use Rattle.af_nblog.proofs.Turns.{Notes, Turn, notes_of_round, turn_of_round}

-- ## What a meeting tells

-- the last meeting counts
told_reads-append : (told count : ℕ) (es : List ClientEvent) → told_reads told (es ++ client.Learn count ∷ []) ≡ count
told_reads-append told count [] = refl
told_reads-append told count (client.Learn n ∷ es) = told_reads-append n count es
told_reads-append told count (_ ∷ es) = told_reads-append told count es

told_puts-append : (told count : ℕ) (es : List ServerEvent) → told_puts told (es ++ server.Learn count ∷ []) ≡ count
told_puts-append told count [] = refl
told_puts-append told count (server.Learn n ∷ es) = told_puts-append n count es
told_puts-append told count (_ ∷ es) = told_puts-append told count es

-- the same events of a longer list
reads_more : (n : ℕ) (xs ys : List ServerEvent) → read_in (take n xs) ≤ read_in (take n (xs ++ ys))
reads_more zero xs ys = omega arith
reads_more (suc n) [] ys = omega arith
reads_more (suc n) (x ∷ xs) ys =
    let a = reads_more n xs ys in
    let b : read_in (x ∷ take n xs) ≡ read_in (x ∷ []) + read_in (take n xs) = read_in-append (x ∷ []) (take n xs) in
    let c : read_in (x ∷ take n (xs ++ ys)) ≡ read_in (x ∷ []) + read_in (take n (xs ++ ys)) = read_in-append (x ∷ []) (take n (xs ++ ys)) in
    let d : read_in (x ∷ take n xs) ≤ read_in (x ∷ take n (xs ++ ys)) = omega arith in
    d

puts_more : (n : ℕ) (xs ys : List ClientEvent) → put_in (take n xs) ≤ put_in (take n (xs ++ ys))
puts_more zero xs ys = omega arith
puts_more (suc n) [] ys = omega arith
puts_more (suc n) (x ∷ xs) ys =
    let a = puts_more n xs ys in
    let b : put_in (x ∷ take n xs) ≡ put_in (x ∷ []) + put_in (take n xs) = put_in-append (x ∷ []) (take n xs) in
    let c : put_in (x ∷ take n (xs ++ ys)) ≡ put_in (x ∷ []) + put_in (take n (xs ++ ys)) = put_in-append (x ∷ []) (take n (xs ++ ys)) in
    let d : put_in (x ∷ take n xs) ≤ put_in (x ∷ take n (xs ++ ys)) = omega arith in
    d

-- what the end that notes sees behind its first events
record Fronts (size : ℕ) (reads : List ServerEvent) (put told : ℕ) (es : List ClientEvent) : Type 0 where
  low : ℕ
  enough : told ≤ low
  sees : SeesRead size reads put low es

fronts_behind : (size : ℕ) (reads : List ServerEvent) (first es : List ClientEvent) (told put low : ℕ) → read_in (take told reads) ≤ low → SeesRead size reads put low (first ++ es)
    → Fronts size reads (put + put_in first) (read_in (take (told_reads told first) reads)) es
fronts_behind size reads [] es told put low le s = record { low = low; enough = le; sees = subst (λ (n : ℕ). SeesRead size reads n low es) (let e : put ≡ put + 0 = omega arith in e) s }
fronts_behind size reads (client.SawFront front ∷ first) es told put low le s = fronts_behind size reads first es told put s.0 (let a : low ≤ s.0 = s.1 in omega arith) s.6
fronts_behind size reads (client.Release count ∷ first) es told put low le s =
    subst (λ (n : ℕ). Fronts size reads n (read_in (take (told_reads told first) reads)) es) (let e : put + count + put_in first ≡ put + (count + put_in first) = omega arith in e)
    (fronts_behind size reads first es told (put + count) low le s)
fronts_behind size reads (client.Learn count ∷ first) es told put low le s = fronts_behind size reads first es count put (max low (read_in (take count reads))) (omega arith) s
fronts_behind size reads (_ ∷ first) es told put low le s = fronts_behind size reads first es told put low le s

-- the same of the end that reads
record Rears (size : ℕ) (puts : List ClientEvent) (taken told : ℕ) (es : List ServerEvent) : Type 0 where
  low : ℕ
  enough : told ≤ low
  sees : SeesPut size puts taken low es

rears_behind : (size : ℕ) (puts : List ClientEvent) (first es : List ServerEvent) (told taken low : ℕ) → list_all takes_note first ≡ true → put_in (take told puts) ≤ low → SeesPut size puts taken low (first ++ es)
    → Rears size puts (taken + 8 * read_in first) (put_in (take (told_puts told first) puts)) es
rears_behind size puts [] es told taken low all le s = record { low = low; enough = le; sees = subst (λ (n : ℕ). SeesPut size puts n low es) (let e : taken ≡ taken + 8 * 0 = omega arith in e) s }
rears_behind size puts (server.SawRear rear ∷ first) es told taken low all le s = rears_behind size puts first es told taken s.0 all (let a : low ≤ s.0 = s.1 in omega arith) s.5
rears_behind size puts (server.SawFront front ∷ first) es told taken low all le s = rears_behind size puts first es told taken low all le s.1
rears_behind size puts (server.Take count ∷ first) es told taken low all le s =
    let parts = and_parts (takes_note (server.Take count)) (list_all takes_note first) all in
    let whole : count ≡ 8 = is_eight count parts.0 in
    subst (λ (n : ℕ). Rears size puts n (put_in (take (told_puts told first) puts)) es) (let e : taken + count + 8 * read_in first ≡ taken + 8 * (1 + read_in first) = omega arith in e)
    (rears_behind size puts first es told (taken + count) low parts.1 le s)
rears_behind size puts (server.Learn count ∷ first) es told taken low all le s = rears_behind size puts first es count taken (max low (put_in (take count puts))) all (omega arith) s
rears_behind size puts (_ ∷ first) es told taken low all le s = rears_behind size puts first es told taken low all le s

-- ## A round more

each_more : (room before : ℕ) (rounds : List (List Bool)) (round : List Bool) → EachRefusesLate room before rounds → RefusesLate room (last_accepted before rounds) round → EachRefusesLate room before (rounds ++ round ∷ [])
each_more room before [] round each late = (late, tt)
each_more room before (r ∷ rounds) round each late = (each.0, each_more room (count_accepted r) rounds round each.1 late)

-- what a list's front has, if all of it has it
front_takes : (xs ys : List ServerEvent) → list_all takes_note (xs ++ ys) ≡ true → list_all takes_note xs ≡ true
front_takes xs ys all = (and_parts (list_all takes_note xs) (list_all takes_note ys) (sym (list_all-append takes_note xs ys) ∙ all)).0

counted_more : (a b n m k : ℕ) → a ≡ 8 * n → b ≡ a + 8 * k → b ≡ 8 * m → m ≡ n + k
counted_more a b n m k x y z = omega arith

module _ (size room : ℕ) (rounds : List (List Bool)) (round : List Bool) (notes : List Note) (w v : WriterState) (r s : ReaderState) (w' : WriterState) (r' : ReaderState) (size_is : size ≡ 8 * room) (some : 1 ≤ room) (few : size ≤ 65536) (before : IsBetween room rounds w r) (shape : v.pass.part.shape.frames ≡ size) (noted : HasNoted w.pass.part round v.pass.part) (drained : HasDrained room r.pass notes s.pass) (whole : length v.pass.part.frames ≡ 8 * length (accepted v)) (whole_read : length s.pass.part.frames ≡ 8 * length (read s)) (puts_is : w'.pass.part.events ≡ v.pass.part.events ++ client.Learn (length s.pass.part.events) ∷ []) (put_same : w'.pass.part.frames ≡ v.pass.part.frames) (takes_is : r'.pass.part.events ≡ s.pass.part.events ++ server.Learn (length v.pass.part.events) ∷ []) (taken_same : r'.pass.part.frames ≡ s.pass.part.frames) (all : list_all takes_note r'.pass.part.events ≡ true) (put_count : put_in w'.pass.part.events ≡ length w'.pass.part.frames) (read_count : 8 * read_in r'.pass.part.events ≡ length r'.pass.part.frames) (fronts : SeesRead size r'.pass.part.events 0 0 w'.pass.part.events) (rears : SeesPut size w'.pass.part.events 0 0 r'.pass.part.events) where
  made : Notes w.pass.part v.pass.part round
  made = notes_of_round round w.pass.part v.pass.part noted

  turn : Turn room r.pass s.pass notes
  turn = turn_of_round room notes r.pass s.pass drained

  -- both lists begin with those before the round
  abbrev puts_end : List ClientEvent
  puts_end = client.Learn (length s.pass.part.events) ∷ []

  abbrev takes_end : List ServerEvent
  takes_end = server.Learn (length v.pass.part.events) ∷ []

  puts_all : w'.pass.part.events ≡ w.pass.part.events ++ (made.events ++ puts_end)
  puts_all = puts_is ∙ ap (λ (es : List ClientEvent). es ++ puts_end) made.is ∙ append_assoc w.pass.part.events made.events puts_end

  takes_all : r'.pass.part.events ≡ r.pass.part.events ++ (turn.events ++ takes_end)
  takes_all = takes_is ∙ ap (λ (es : List ServerEvent). es ++ takes_end) turn.is ∙ append_assoc r.pass.part.events turn.events takes_end

  -- how many notes there are
  accepted_more : length (accepted v) ≡ length (accepted w) + count_accepted round
  accepted_more = counted_more (length w.pass.part.frames) (length v.pass.part.frames) (length (accepted w)) (length (accepted v)) (count_accepted round) before.counted.whole made.count whole

  read_more : length (read s) ≡ length (read r) + length notes
  read_more = counted_more (length r.pass.part.frames) (length s.pass.part.frames) (length (read r)) (length (read s)) (length notes) before.counted.whole_read turn.count whole_read

  accepted_same : length (accepted w') ≡ length (accepted v)
  accepted_same = ap (λ (ws : List ℕ). length (notes_in ws)) put_same

  read_same : length (read r') ≡ length (read s)
  read_same = ap (λ (ws : List ℕ). length (notes_in ws)) taken_same

  -- each note of the round that was refused came late
  seen : Fronts size r'.pass.part.events (0 + put_in w.pass.part.events) (read_in (take (told_reads 0 w.pass.part.events) r'.pass.part.events)) (made.events ++ puts_end)
  seen =
      fronts_behind size r'.pass.part.events w.pass.part.events (made.events ++ puts_end) 0 0 0 (let e : 0 ≤ 0 = omega arith in e)
      (subst (λ (es : List ClientEvent). SeesRead size r'.pass.part.events 0 0 es) puts_all fronts)

  told_read : length (read r) ≤ seen.low
  told_read =
      let a = before.reads in
      let n : ℕ = told_reads 0 w.pass.part.events in
      let b : read_in (take n r.pass.part.events) ≤ read_in (take n r'.pass.part.events) =
      subst (λ (es : List ServerEvent). read_in (take n r.pass.part.events) ≤ read_in (take n es)) (sym takes_all) (reads_more n r.pass.part.events (turn.events ++ takes_end)) in
      let c = seen.enough in
      omega arith

  late : RefusesLate room (last_accepted 0 rounds) round
  late =
      let a = before.counted.whole in
      let b = before.drained in
      let few_more : length w.pass.part.frames ≤ 8 * (last_accepted 0 rounds + length (read r)) = omega arith in
      let at : 0 + put_in w.pass.part.events ≡ length w.pass.part.frames = (let c = before.counted.put_is in omega arith) in
      made.late room size (last_accepted 0 rounds) (length (read r)) seen.low r'.pass.part.events puts_end size_is some (sym (ap (λ (k : Shape). k.frames) made.shape) ∙ shape) few_more told_read
      (subst (λ (n : ℕ). SeesRead size r'.pass.part.events n seen.low (made.events ++ puts_end)) at seen.sees)

  -- all that was accepted before the round has been read
  shown : Rears size w'.pass.part.events (0 + 8 * read_in r.pass.part.events) (put_in (take (told_puts 0 r.pass.part.events) w'.pass.part.events)) (turn.events ++ takes_end)
  shown =
      rears_behind size w'.pass.part.events r.pass.part.events (turn.events ++ takes_end) 0 0 0
      (front_takes r.pass.part.events (turn.events ++ takes_end) (subst (λ (es : List ServerEvent). list_all takes_note es ≡ true) takes_all all)) (let e : 0 ≤ 0 = omega arith in e)
      (subst (λ (es : List ServerEvent). SeesPut size w'.pass.part.events 0 0 es) takes_all rears)

  told_put : 8 * length (accepted w) ≤ shown.low
  told_put =
      let a = before.puts in
      let n : ℕ = told_puts 0 r.pass.part.events in
      let b : put_in (take n w.pass.part.events) ≤ put_in (take n w'.pass.part.events) =
      subst (λ (es : List ClientEvent). put_in (take n w.pass.part.events) ≤ put_in (take n es)) (sym puts_all) (puts_more n w.pass.part.events (made.events ++ puts_end)) in
      let c = shown.enough in
      omega arith

  left : length (accepted w) ≤ length (read r) + length notes
  left =
      let at : 0 + 8 * read_in r.pass.part.events ≡ 8 * length (read r) = (let c = before.counted.read_is in omega arith) in
      turn.all size (length (accepted w)) (length (read r)) shown.low w'.pass.part.events takes_end size_is some few told_put
      (subst (λ (n : ℕ). SeesPut size w'.pass.part.events n shown.low (turn.events ++ takes_end)) at shown.sees)

  -- the meeting tells all
  counted : AreCounted w' r'
  counted =
      record {
        whole = ap length put_same ∙ whole ∙ ap (λ (ws : List ℕ). 8 * length (notes_in ws)) (sym put_same);
        put_is = put_count;
        whole_read = ap length taken_same ∙ whole_read ∙ ap (λ (ws : List ℕ). 8 * length (notes_in ws)) (sym taken_same);
        read_is = (let a = ap length taken_same in let b = read_same in omega arith);
      }

  told_all_reads : length (read r') ≤ read_in (take (told_reads 0 w'.pass.part.events) r'.pass.part.events)
  told_all_reads =
      let count : told_reads 0 w'.pass.part.events ≡ length s.pass.part.events = ap (told_reads 0) puts_is ∙ told_reads-append 0 (length s.pass.part.events) v.pass.part.events in
      let first : take (length s.pass.part.events) (s.pass.part.events ++ takes_end) ≡ s.pass.part.events = take-append_seam s.pass.part.events takes_end in
      let same : read_in (take (told_reads 0 w'.pass.part.events) r'.pass.part.events) ≡ read_in s.pass.part.events = ap (λ (x : ℕ × List ServerEvent). read_in (take x.0 x.1)) (λ i. (count i, takes_is i)) ∙ ap read_in first in
      let whole_list : read_in r'.pass.part.events ≡ read_in s.pass.part.events + 0 = ap read_in takes_is ∙ read_in-append s.pass.part.events takes_end in
      let is = counted.read_is in
      omega arith

  told_all_puts : 8 * length (accepted w') ≤ put_in (take (told_puts 0 r'.pass.part.events) w'.pass.part.events)
  told_all_puts =
      let count : told_puts 0 r'.pass.part.events ≡ length v.pass.part.events = ap (told_puts 0) takes_is ∙ told_puts-append 0 (length v.pass.part.events) s.pass.part.events in
      let first : take (length v.pass.part.events) (v.pass.part.events ++ puts_end) ≡ v.pass.part.events = take-append_seam v.pass.part.events puts_end in
      let same : put_in (take (told_puts 0 r'.pass.part.events) w'.pass.part.events) ≡ put_in v.pass.part.events = ap (λ (x : ℕ × List ClientEvent). put_in (take x.0 x.1)) (λ i. (count i, puts_is i)) ∙ ap put_in first in
      let whole_list : put_in w'.pass.part.events ≡ put_in v.pass.part.events + 0 = ap put_in puts_is ∙ put_in-append v.pass.part.events puts_end in
      let a = counted.whole in
      let b = counted.put_is in
      omega arith

  pub round_more : IsBetween room (rounds ++ round ∷ []) w' r'
  round_more =
      record {
        counted = counted;
        reads = told_all_reads;
        puts = told_all_puts;
        late = each_more room 0 rounds round before.late late;
        drained =
            let a = last_of 0 rounds round in
            let b = left in
            let c = read_more in
            let d = accepted_more in
            let e = accepted_same in
            let f = read_same in
            omega arith;
      }

-- ## Before the first round

-- nothing was noted and nothing read
pub new_between : (room : ℕ) (p : ClientSide) (q : ServerSide) (refused : ℕ) (k : Shape) → p.part ≡ new_client k → q.part ≡ new_server k → IsBetween room [] (record { pass = p; refused = refused }) (record { pass = q })
new_between room p q refused k puts takes =
    let accepted_none : length (notes_in p.part.frames) ≡ 0 = ap (λ (x : ClientPart). length (notes_in x.frames)) puts ∙ ap length none_spelled in
    let read_none : length (notes_in q.part.frames) ≡ 0 = ap (λ (x : ServerPart). length (notes_in x.frames)) takes ∙ ap length none_spelled in
    let put_none : length p.part.frames ≡ 0 = ap (λ (x : ClientPart). length x.frames) puts in
    let taken_none : length q.part.frames ≡ 0 = ap (λ (x : ServerPart). length x.frames) takes in
    let no_puts : put_in p.part.events ≡ 0 = ap (λ (x : ClientPart). put_in x.events) puts in
    let no_reads : read_in q.part.events ≡ 0 = ap (λ (x : ServerPart). read_in x.events) takes in
    record {
      counted = record { whole = omega arith; put_is = omega arith; whole_read = omega arith; read_is = omega arith };
      reads = omega arith;
      puts = omega arith;
      late = tt;
      drained = omega arith;
    }
