-- How a reading stops.
use Rattle.std.proofs.Common.{◌≡◌, ◌⊎◌, ◌↔◌, IsTrue, inr, ⊎_elim, ℕ, ◌+◌, ◌-◌, ◌<◌, ◌≤◌, min, Bool}
use Rattle.std.proofs.Common.{true, false, cond, eqb, nat_le, List, [], ◌∷◌, ◌++◌, length, take}
use Rattle.std.proofs.Common.{drop, refl, sym, ◌∙◌, ap, subst, arith, append_assoc, length-append}
use Rattle.std.proofs.Common.{length-drop}
use Rattle.std.proofs.lemmas.Bool.{eqb-true, eqb-false, le-leb, lt-leb}
use Rattle.std.proofs.lemmas.List.{append-nil, take_at, drop_at}
use Rattle.std.proofs.Math.Seq.{take-append-add}
use Rattle.std.specs.List.{flat_map}
use Rattle.vab_fbtcp.specs.declared.event.Place.{Place}
use Rattle.vab_fbtcp.specs.declared.event.Place.TheVariants.{Hello, Length, Body}
use Rattle.vab_exchanges.specs.Session.{packet, length_at, Leaves, IsCutShort, IsAbove, Breaks}
use Rattle.vab_exchanges.specs.Session.{Stops, HasNoHello, End, spent}
use Rattle.vab_exchanges.specs.Session as session
use Rattle.vab_exchanges.specs.Reading.{IfNotSource, UnlessSource, FaultAt, cut_of, EndsAs, StopsBy}
use Rattle.vab_exchanges.specs.Reading.{IsShort, IsBroken}
use Rattle.std.specs.Int.{w64, to_be_bytes}
use Rattle.vab_exchanges.proofs.Packets.{is_packet}
use Rattle.std.proofs.Common.{Result, Ok, Err}
use Rattle.vab_exchanges.specs.declared.fault.ReadFault.{ReadFault}
use Rattle.vab_exchanges.specs.declared.fault.ReadFault.TheVariants.{BadHello, TooLong, Overrun}
use Rattle.vab_exchanges.specs.declared.fault.ReadFault.TheVariants.{Cut, Spent, Source}

-- which way a test goes doesn't matter where both are one
same_either : (b : Bool) (x : End) → x ≡ cond b x x
same_either true x = refl
same_either false x = refl

-- where the input ends inside something
pub by_cut : (Stop : End → Type 0) (taken most : ℕ) (left : List ℕ)
    → taken ≤ most
    → (taken ≡ most) ⊎ (left ≡ [])
    → Stop (session.Cut (min most (taken + length left)))
    → StopsBy Stop (taken + length left) most (cut_of taken most)
by_cut Stop taken most left within end stops = by_test (eqb taken most) refl
  where
    by_test : (b : Bool)
        → eqb taken most ≡ b
        → StopsBy Stop (taken + length left) most (cond b Spent (Cut taken))
    by_test true is =
        let all : nat_le most (taken + length left) ≡ true =
        le-leb most (taken + length left)
        (let same = eqb-true taken most is in omega (arith, same)) in
        record {
          first = session.Cut (min most (taken + length left));
          stops = stops;
          is =
              ap (λ b. cond b session.Spent (session.Cut (min most (taken + length left))))
              (sym all);
        }
    by_test false is =
        let none : left ≡ [] =
        ⊎_elim (λ same. absurd (eqb-false taken most is same)) (λ none. none) end in
        let total : taken + length left ≡ taken = omega (arith, ap length none) in
        let below : taken < most =
        ⊎_elim (λ same. absurd (eqb-false taken most is same))
        (λ none. differ (eqb-false taken most is)) end in
        let test : nat_le most (taken + length left) ≡ false =
        lt-leb most (taken + length left) (omega (arith, total, below)) in
        let count : min most (taken + length left) ≡ taken = omega (arith, total, below) in
        record {
          first = session.Cut (min most (taken + length left));
          stops = stops;
          is =
              ap session.Cut (sym count)
              ∙ ap (λ b. cond b session.Spent (session.Cut (min most (taken + length left))))
              (sym test);
        }
      where
        differ : (taken ≡ most → ⊥) → taken < most
        differ other = omega (arith, other)

-- what holds, and what holds unless hearing failed
pub in_any_case : (P : Type 0) (fault : ReadFault) → P → IfNotSource P fault
in_any_case P Source holds = tt
in_any_case P BadHello holds = holds
in_any_case P (TooLong n) holds = holds
in_any_case P (Overrun due came) holds = holds
in_any_case P (Cut at) holds = holds
in_any_case P Spent holds = holds

pub in_any_result : {A : Type 0} (P : Type 0) (r : Result A ReadFault) → P → UnlessSource P r
in_any_result P (Ok x) holds = holds
in_any_result P (Err fault) holds = in_any_case P fault holds

pub unless_then : (P Q : Type 0) (fault : ReadFault)
    → (P → Q)
    → IfNotSource P fault
    → IfNotSource Q fault
unless_then P Q Source then holds = tt
unless_then P Q BadHello then holds = then holds
unless_then P Q (TooLong n) then holds = then holds
unless_then P Q (Overrun due came) then holds = then holds
unless_then P Q (Cut at) then holds = then holds
unless_then P Q Spent then holds = then holds

-- what stops a reading stops one of which it says as much
pub wider : (A B : End → Type 0) (total most : ℕ) (fault : ReadFault)
    → ((e : End) → A e → B e)
    → StopsBy A total most fault
    → StopsBy B total most fault
wider A B total most Source widen why = tt
wider A B total most BadHello widen why =
    record { first = why.first; stops = widen why.first why.stops; is = why.is }
wider A B total most (TooLong n) widen why =
    record { first = why.first; stops = widen why.first why.stops; is = why.is }
wider A B total most (Overrun due came) widen why =
    record { first = why.first; stops = widen why.first why.stops; is = why.is }
wider A B total most (Cut at) widen why =
    record { first = why.first; stops = widen why.first why.stops; is = why.is }
wider A B total most Spent widen why =
    record { first = why.first; stops = widen why.first why.stops; is = why.is }

-- a fault of the framing
pub by_hello : (count total most : ℕ) (rest : List ℕ) (fault : ReadFault)
    → FaultAt 0 Hello rest fault
    → StopsBy (HasNoHello count rest) total most fault
by_hello count total most rest BadHello why =
    record {
      first = session.BadHello;
      stops = (why.1, why.2);
      is = same_either (nat_le most total) session.BadHello;
    }
by_hello count total most rest (TooLong n) why = let is = why.0 in cc
by_hello count total most rest Source why = tt
by_hello count total most rest (Overrun d n) why = absurd why
by_hello count total most rest (Cut at) why = absurd why
by_hello count total most rest Spent why = absurd why

pub by_length : (count total most : ℕ) (rest : List ℕ) (fault : ReadFault)
    → FaultAt 0 Length rest fault
    → StopsBy (Stops count rest) total most fault
by_length count total most rest (TooLong n) why =
    record {
      first = session.TooLong n;
      stops = why.2;
      is = same_either (nat_le most total) (session.TooLong n);
    }
by_length count total most rest BadHello why = let is = why.0 in cc
by_length count total most rest Source why = tt
by_length count total most rest (Overrun d n) why = absurd why
by_length count total most rest (Cut at) why = absurd why
by_length count total most rest Spent why = absurd why

-- within a packet, and where data are due, only the port fails
pub by_body : (Stop : End → Type 0) (total most due left : ℕ) (rest : List ℕ) (fault : ReadFault)
    → FaultAt due (Body left) rest fault
    → StopsBy Stop total most fault
by_body Stop total most due left rest BadHello why = let is = why.0 in cc
by_body Stop total most due left rest (TooLong n) why = let is = why.0 in cc
by_body Stop total most due left rest Source why = tt
by_body Stop total most due left rest (Overrun d n) why = absurd why
by_body Stop total most due left rest (Cut at) why = absurd why
by_body Stop total most due left rest Spent why = absurd why

pub by_due : (Stop : End → Type 0) (total most due : ℕ) (rest : List ℕ) (fault : ReadFault)
    → 0 < due
    → FaultAt due Length rest fault
    → StopsBy Stop total most fault
by_due Stop total most due rest BadHello some why = let is = why.0 in cc
by_due Stop total most due rest (TooLong n) some why = absurd (omega (arith, some, why.1))
by_due Stop total most due rest Source some why = tt
by_due Stop total most due rest (Overrun d n) some why = absurd why
by_due Stop total most due rest (Cut at) some why = absurd why
by_due Stop total most due rest Spent some why = absurd why

-- some of the data came, and these are their bytes
pub record HasSome (due still : ℕ) (before after bytes : List ℕ) : Type 0 where
  pub parts : List (List ℕ)
  pub leaves : Leaves due parts still
  pub is : before ≡ flat_map packet parts ++ after
  pub bytes_are : bytes ≡ flat_map (λ (part : List ℕ). part) parts

-- where nothing more comes, in a total that is kept
pub cut_here : (Stop : End → Type 0) (taken room : ℕ) (left : List ℕ) (total most : ℕ)
    (fault : ReadFault)
    → taken ≤ room
    → (taken ≡ room) ⊎ (left ≡ [])
    → taken + length left ≡ total
    → room ≡ most
    → fault ≡ cut_of taken room
    → Stop (session.Cut (min most total))
    → StopsBy Stop total most fault
cut_here Stop taken room left total most fault within end sum same is stops =
    subst (λ (f : ReadFault). StopsBy Stop total most f) (sym is)
    (subst (λ (n : ℕ). StopsBy Stop total n (cut_of taken room)) same
    (subst (λ (n : ℕ). StopsBy Stop n room (cut_of taken room)) sum
    (by_cut Stop taken room left within end
    (subst (λ (n : ℕ). Stop (session.Cut (min n (taken + length left)))) (sym same)
    (subst (λ (n : ℕ). Stop (session.Cut (min most n))) (sym sum) stops)))))

-- where the input ends behind the last packet
pub closed_here : (taken room : ℕ) (left : List ℕ) (total most : ℕ) (rest : List ℕ)
    → taken < room
    → (taken ≡ room) ⊎ (left ≡ [])
    → taken + length left ≡ total
    → room ≡ most
    → rest ≡ []
    → EndsAs (Stops (min most total) rest) total most session.Closed
closed_here taken room left total most rest below end sum same none =
    let empty : left ≡ [] = ⊎_elim (λ all. absurd (omega (arith, below, all))) (λ none. none) end in
    let test : nat_le most total ≡ false =
    lt-leb most total (omega (arith, ap length empty, sum, same, below)) in
    record {
      first = session.Closed;
      stops = none;
      is = ap (λ b. cond b session.Spent session.Closed) (sym test);
    }

-- bytes that went over from what is left to what is held
pub grown : (old new rest rest' : List ℕ) (n : ℕ)
    → old ++ rest ≡ new ++ rest'
    → length new ≡ length old + n
    → (new ≡ old ++ take n rest) × (rest ≡ take n rest ++ rest')
grown old new rest rest' n is long =
    let more : new ≡ take (length old + n) (old ++ rest) =
    sym (take_at new rest' (length old + n) long) ∙ ap (take (length old + n)) (sym is) in
    let split : take (length old + n) (old ++ rest) ≡ old ++ take n rest =
    take-append-add old rest n in
    let all = more ∙ split in (
      all,
      sym (drop_at old rest (length old) refl)
          ∙ ap (drop (length old))
          (is ∙ ap (λ (l : List ℕ). l ++ rest') all ∙ append_assoc old (take n rest) rest')
          ∙ drop_at old (take n rest ++ rest') (length old) refl,
    )

-- where a packet ends before its length says, and the reader is behind the length
pub by_short : (rest' rest : List ℕ) (total' n total most' most : ℕ) (fault : ReadFault)
    → 8 ≤ length rest
    → n ≡ length_at rest
    → n ≤ 4096
    → rest' ≡ drop 8 rest
    → total' ≡ total
    → most' ≡ most
    → StopsBy (IsShort (min most' total') n rest') total' most' fault
    → StopsBy (Stops (min most total) rest) total most fault
by_short rest' rest total' n total most' most fault eight is fits behind sum same why =
    wider (IsShort (min most total) n rest') (Stops (min most total) rest) total most fault
    (λ e short. subst (λ (x : End). Stops (min most total) rest x) (sym short.1) (
      refl,
      omega (arith, eight),
      inr (
        omega (arith, is, fits),
        omega (arith, is, short.0, ap length behind, length-drop 8 rest, eight),
      ),
    ))
    (subst (λ (m : ℕ). StopsBy (IsShort (min m total) n rest') total m fault) same
    (subst (λ (k : ℕ). StopsBy (IsShort (min most' k) n rest') k most' fault) sum why))

pub spent_here : (taken room : ℕ) (left : List ℕ) (total most : ℕ) (rest : List ℕ)
    → taken ≡ room
    → taken + length left ≡ total
    → room ≡ most
    → rest ≡ []
    → EndsAs (Stops (min most total) rest) total most session.Spent
spent_here taken room left total most rest all sum same none =
    let test : nat_le most total ≡ true = le-leb most total (omega (arith, all, sum, same)) in
    record {
      first = session.Closed;
      stops = none;
      is = ap (λ b. cond b session.Spent session.Closed) (sym test);
    }

-- what a framer says of whether it stands between packets, of all that is left
pub between_none : (b : Bool) (place : Place) (unread rest : List ℕ)
    → (IsTrue b ↔ ((place ≡ Length) × (unread ≡ [])))
    → unread ≡ rest
    → b ≡ true
    → rest ≡ []
between_none true place unread rest is held test = let both = is.0 refl in sym held ∙ both.1
between_none false place unread rest is held test = cc

pub between_some : (b : Bool) (place : Place) (unread rest : List ℕ)
    → (IsTrue b ↔ ((place ≡ Length) × (unread ≡ [])))
    → place ≡ Length
    → unread ≡ rest
    → b ≡ false
    → 0 < length rest
between_some b place unread [] is there held test =
    let yes : IsTrue b = is.1 (there, held) in let other : b ≡ true = yes in cc
between_some b place unread (x ∷ rest) is there held test = omega arith

-- ---- data

-- one packet more
leaves_more : (due : ℕ) (ps : List (List ℕ)) (left : ℕ) (p : List ℕ)
    → 0 < left
    → length p ≤ left
    → Leaves due ps left
    → Leaves due (ps ++ p ∷ []) (left - length p)
leaves_more due [] left p some fits leaves =
    (omega (arith, leaves, some), omega (arith, leaves, fits), ap (λ (n : ℕ). n - length p) leaves)
leaves_more due (q ∷ qs) left p some fits leaves =
    (leaves.0, leaves.1, leaves_more (due - length q) qs left p some fits leaves.2)

pub flat_more : (f : List ℕ → List ℕ) (ps : List (List ℕ)) (p : List ℕ)
    → flat_map f (ps ++ p ∷ []) ≡ flat_map f ps ++ f p
flat_more f [] p = append-nil (f p)
flat_more f (q ∷ qs) p =
    ap (λ (l : List ℕ). f q ++ l) (flat_more f qs p)
    ∙ sym (append_assoc (f q) (flat_map f qs) (f p))

pub has_more : (due left n : ℕ) (before here head after bytes bytes' : List ℕ)
    → 0 < left
    → n ≤ left
    → HasSome due left before here bytes
    → take 8 here ≡ to_be_bytes w64 n
    → head ≡ drop 8 here
    → bytes ++ head ≡ bytes' ++ after
    → length bytes' ≡ length bytes + n
    → HasSome due (left - n) before after bytes'
has_more due left n before here head after bytes bytes' some fits so_far spelled behind is long =
    let grew = grown bytes bytes' head after n is long in
    let part = take n head in
    let size : length part ≡ n = omega (arith, ap length grew.0, length-append bytes part, long) in
    let whole : here ≡ packet part ++ after =
    is_packet here after part n spelled size (sym behind ∙ grew.1) in
    record {
      parts = so_far.parts ++ part ∷ [];
      leaves =
          subst (λ (k : ℕ). Leaves due (so_far.parts ++ part ∷ []) (left - k)) size
          (leaves_more due so_far.parts left part some (omega (arith, size, fits)) so_far.leaves);
      is =
          so_far.is
          ∙ ap (λ (l : List ℕ). flat_map packet so_far.parts ++ l) whole
          ∙ sym (append_assoc (flat_map packet so_far.parts) (packet part) after)
          ∙ ap (λ (l : List ℕ). l ++ after) (sym (flat_more packet so_far.parts part));
      bytes_are =
          grew.0
          ∙ ap (λ (l : List ℕ). l ++ part) so_far.bytes_are
          ∙ sym (flat_more (λ (x : List ℕ). x) so_far.parts part);
    }

pub broken_cut : (count due left : ℕ) (before here bytes : List ℕ)
    → 0 < left
    → HasSome due left before here bytes
    → IsCutShort left here
    → IsBroken count due before (session.Cut count)
broken_cut count due left before here bytes some so_far cut =
    record {
      parts = so_far.parts;
      rest = here;
      still = left;
      is = so_far.is;
      some = some;
      leaves = so_far.leaves;
      breaks = (refl, cut);
    }

pub overrun : (count due left n : ℕ) (before here bytes : List ℕ) (total most : ℕ)
    → 0 < left
    → HasSome due left before here bytes
    → 8 ≤ length here
    → n ≡ length_at here
    → left < n
    → EndsAs (IsBroken count due before) total most (session.Overrun left n)
overrun count due left n before here bytes total most some so_far eight is above = record {
  first = session.Overrun left n;
  stops =
      record {
        parts = so_far.parts;
        rest = here;
        still = left;
        is = so_far.is;
        some = some;
        leaves = so_far.leaves;
        breaks = (refl, (eight, is, above));
      };
  is = same_either (nat_le most total) (session.Overrun left n);
}

pub broken_short : (due left n : ℕ) (before here head bytes : List ℕ)
    (total' total most' most : ℕ) (fault : ReadFault)
    → 0 < left
    → HasSome due left before here bytes
    → 8 ≤ length here
    → n ≡ length_at here
    → n ≤ left
    → head ≡ drop 8 here
    → total' ≡ total
    → most' ≡ most
    → StopsBy (IsShort (min most' total') n head) total' most' fault
    → StopsBy (IsBroken (min most total) due before) total most fault
broken_short due left n before here head bytes total' total most' most fault some so_far eight is
    fits behind sum same why =
    wider (IsShort (min most total) n head) (IsBroken (min most total) due before) total most fault
    (λ e short. subst (λ (x : End). IsBroken (min most total) due before x) (sym short.1)
    (broken_cut (min most total) due left before here bytes some so_far
    (inr (
      omega (arith, is, fits),
      omega (arith, is, short.0, ap length behind, length-drop 8 here, eight),
    ))))
    (subst (λ (m : ℕ). StopsBy (IsShort (min m total) n head) total m fault) same
    (subst (λ (k : ℕ). StopsBy (IsShort (min most' k) n head) k most' fault) sum why))
