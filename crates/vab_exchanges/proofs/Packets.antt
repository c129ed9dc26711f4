-- A list of bytes as exchanges, in the one way that there is for a choice.
use Rattle.std.proofs.Common.{◌≡◌, ◌⊎◌, inl, inr, ⊎_elim, Bool, true, false, cond, subst, ℕ, zero}
use Rattle.std.proofs.Common.{suc, ◌+◌, ◌-◌, ◌<◌, ◌≤◌, List, [], ◌∷◌, ◌++◌, Option, Some, None}
use Rattle.std.proofs.Common.{Result, Ok, Err, length, get_or, take, drop, refl, sym, ◌∙◌, ap}
use Rattle.std.proofs.Common.{arith, append_assoc, length-append, length-take, length-drop}
use Rattle.std.proofs.Common.{take-append-drop, ltb}
use Rattle.std.proofs.lemmas.Bool.{cases_eq, cases_Bool, ltb-false}
use Rattle.std.proofs.lemmas.List.{take_at, drop_at, get_or-append-add}
use Rattle.std.proofs.lemmas.Nat.{be_bytes_8, from_be_bytes-to_be_bytes_8}
use Rattle.std.specs.List.{flat_map}
use Rattle.std.specs.Int.{w64, to_be_bytes, from_be_bytes}
use Rattle.vab_fbproto.specs.Requests.{Asked, Getvar, Download, Do, MergeAll, BootAndEnd}
use Rattle.vab_fbproto.specs.Requests.{request_of}
use Rattle.vab_fbproto.specs.declared.request.BadCommand.{BadCommand}
use Rattle.vab_exchanges.specs.Session.{packet, length_at, ends_session, most_data, wanted, due_of}
use Rattle.vab_exchanges.specs.Session.{Exchange, spelled, Leaves, IsExchange, End, Closed}
use Rattle.vab_exchanges.specs.Session.{Rebooted, BadHello, TooLong, Overrun, Cut, Spent}
use Rattle.vab_exchanges.specs.Session.{IsCutShort, IsAbove, Stops, Breaks, StopsWith, IsRead}
use Rattle.vab_exchanges.specs.Session.{Follows}

-- ---- one packet

length-packet : (b : List ℕ) → length (packet b) ≡ 8 + length b
unfolding packet
length-packet b = omega (arith, length-append (to_be_bytes w64 (length b)) b)

front_bytes : (b more : List ℕ) → packet b ++ more ≡ to_be_bytes w64 (length b) ++ (b ++ more)
unfolding packet
front_bytes b more = append_assoc (to_be_bytes w64 (length b)) b more

length_at-packet : (b more : List ℕ)
    → length b ≤ most_data
    → length_at (packet b ++ more) ≡ length b
length_at-packet b more short =
    ap (λ (l : List ℕ). from_be_bytes w64 (take 8 l)) (front_bytes b more)
    ∙ ap (from_be_bytes w64) (take_at (to_be_bytes w64 (length b)) (b ++ more) 8 refl)
    ∙ from_be_bytes-to_be_bytes_8 (length b) (omega (arith, short))

behind_length : (b more : List ℕ) → drop 8 (packet b ++ more) ≡ b ++ more
behind_length b more =
    ap (λ (l : List ℕ). drop 8 l) (front_bytes b more)
    ∙ drop_at (to_be_bytes w64 (length b)) (b ++ more) 8 refl

long_packet : (b more : List ℕ) → length (packet b ++ more) ≡ 8 + length b + length more
long_packet b more = omega (arith, length-append (packet b) more, length-packet b)

-- a length and as many bytes are a packet
pub is_packet : (rest after bytes : List ℕ) (n : ℕ)
    → take 8 rest ≡ to_be_bytes w64 n
    → length bytes ≡ n
    → drop 8 rest ≡ bytes ++ after
    → rest ≡ packet bytes ++ after
is_packet rest after bytes n head long body =
    sym (take-append-drop 8 rest)
    ∙ (λ i. (head ∙ ap (to_be_bytes w64) (sym long)) i ++ body i)
    ∙ sym (front_bytes bytes after)

-- two packets that stand at the front of the same bytes are one
pub same_packet : (b c x y : List ℕ)
    → length b ≤ most_data
    → length c ≤ most_data
    → packet b ++ x ≡ packet c ++ y
    → (b ≡ c) × (x ≡ y)
same_packet b c x y fits fits' is =
    let long : length b ≡ length c =
    sym (length_at-packet b x fits) ∙ ap length_at is ∙ length_at-packet c y fits' in
    let bodies : b ++ x ≡ c ++ y =
    sym (behind_length b x) ∙ ap (λ (l : List ℕ). drop 8 l) is ∙ behind_length c y in (
      sym (take_at b x (length c) long)
          ∙ ap (λ (l : List ℕ). take (length c) l) bodies
          ∙ take_at c y (length c) refl,
      sym (drop_at b x (length c) long)
          ∙ ap (λ (l : List ℕ). drop (length c) l) bodies
          ∙ drop_at c y (length c) refl,
    )

-- where bytes are cut short, or a packet is too long, no packet that fits stands whole
cut_or_packet : (most : ℕ) (rest : List ℕ)
    → IsCutShort most rest
    → (b more : List ℕ)
    → length b ≤ most_data
    → rest ≡ packet b ++ more
    → ⊥
cut_or_packet most rest cut b more fits is =
    let same : length_at rest ≡ length b = ap length_at is ∙ length_at-packet b more fits in
    let long : length rest ≡ 8 + length b + length more = ap length is ∙ long_packet b more in
    ⊎_elim (λ few. omega (arith, few, long)) (λ part. omega (arith, part.1, same, long)) cut

above_or_packet : (most : ℕ) (rest : List ℕ) (n : ℕ)
    → IsAbove most rest n
    → (b more : List ℕ)
    → length b ≤ most
    → length b ≤ most_data
    → rest ≡ packet b ++ more
    → ⊥
above_or_packet most rest n above b more short fits is =
    let same : length_at rest ≡ length b = ap length_at is ∙ length_at-packet b more fits in
    omega (arith, above.1, above.2, same, short)

cut_or_above : (most : ℕ) (rest : List ℕ) (n : ℕ) → IsCutShort most rest → IsAbove most rest n → ⊥
cut_or_above most rest n cut above =
    ⊎_elim (λ few. omega (arith, few, above.0)) (λ part. omega (arith, part.0, above.1, above.2))
    cut

-- ---- no whole packet

pub stop_or_packet : (count : ℕ) (rest : List ℕ) (end : End)
    → Stops count rest end
    → (b more : List ℕ)
    → length b ≤ 4096
    → rest ≡ packet b ++ more
    → ⊥
stop_or_packet count rest Closed ends b more short is =
    omega (arith, long_packet b more, ap length (sym ends ∙ is))
stop_or_packet count rest (TooLong n) ends b more short is =
    above_or_packet 4096 rest n ends b more short (omega (arith, short)) is
stop_or_packet count rest (Cut at) ends b more short is =
    cut_or_packet 4096 rest ends.2 b more (omega (arith, short)) is
stop_or_packet count rest Rebooted ends b more short is = ends
stop_or_packet count rest BadHello ends b more short is = ends
stop_or_packet count rest (Overrun due came) ends b more short is = ends
stop_or_packet count rest Spent ends b more short is = ends

pub break_or_packet : (count due : ℕ) (rest : List ℕ) (end : End)
    → due ≤ most_data
    → Breaks count due rest end
    → (b more : List ℕ)
    → length b ≤ due
    → rest ≡ packet b ++ more
    → ⊥
break_or_packet count due rest (Overrun d came) fits ends b more short is =
    above_or_packet due rest came ends.1 b more short (omega (arith, short, fits)) is
break_or_packet count due rest (Cut at) fits ends b more short is =
    cut_or_packet due rest ends.1 b more (omega (arith, short, fits)) is
break_or_packet count due rest Closed fits ends b more short is = ends
break_or_packet count due rest (TooLong n) fits ends b more short is = ends
break_or_packet count due rest Rebooted fits ends b more short is = ends
break_or_packet count due rest BadHello fits ends b more short is = ends
break_or_packet count due rest Spent fits ends b more short is = ends

-- the end that a stop says is the one that there is
pub one_stop : (count : ℕ) (rest : List ℕ) (d e : End)
    → Stops count rest d
    → Stops count rest e
    → d ≡ e
one_stop count rest Closed Closed x y = refl
one_stop count rest Closed (Cut at) x y = absurd (omega (arith, ap length x, y.1))
one_stop count rest Closed (TooLong n) x y = absurd (omega (arith, ap length x, y.0))
one_stop count rest (Cut at) Closed x y = absurd (omega (arith, ap length y, x.1))
one_stop count rest (Cut at) (Cut at') x y = ap Cut (x.0 ∙ sym y.0)
one_stop count rest (Cut at) (TooLong n) x y = absurd (cut_or_above 4096 rest n x.2 y)
one_stop count rest (TooLong n) Closed x y = absurd (omega (arith, ap length y, x.0))
one_stop count rest (TooLong n) (Cut at) x y = absurd (cut_or_above 4096 rest n y.2 x)
one_stop count rest (TooLong n) (TooLong m) x y = ap TooLong (x.1 ∙ sym y.1)
one_stop count rest d Rebooted x y = absurd y
one_stop count rest d BadHello x y = absurd y
one_stop count rest d (Overrun due came) x y = absurd y
one_stop count rest d Spent x y = absurd y
one_stop count rest Rebooted e x y = absurd x
one_stop count rest BadHello e x y = absurd x
one_stop count rest (Overrun due came) e x y = absurd x
one_stop count rest Spent e x y = absurd x

one_break : (count due : ℕ) (rest : List ℕ) (d e : End)
    → Breaks count due rest d
    → Breaks count due rest e
    → d ≡ e
one_break count due rest (Cut at) (Cut at') x y = ap Cut (x.0 ∙ sym y.0)
one_break count due rest (Cut at) (Overrun w n) x y = absurd (cut_or_above due rest n x.1 y.1)
one_break count due rest (Overrun w n) (Cut at) x y = absurd (cut_or_above due rest n y.1 x.1)
one_break count due rest (Overrun w n) (Overrun v m) x y =
    λ i. Overrun ((x.0 ∙ sym y.0) i) ((x.1.1 ∙ sym y.1.1) i)
one_break count due rest d Closed x y = absurd y
one_break count due rest d Rebooted x y = absurd y
one_break count due rest d BadHello x y = absurd y
one_break count due rest d (TooLong n) x y = absurd y
one_break count due rest d Spent x y = absurd y
one_break count due rest Closed e x y = absurd x
one_break count due rest Rebooted e x y = absurd x
one_break count due rest BadHello e x y = absurd x
one_break count due rest (TooLong n) e x y = absurd x
one_break count due rest Spent e x y = absurd x

-- ---- data

-- the packets behind a first one that is common
behind : (p q : List ℕ) (ps qs : List (List ℕ)) (x y : List ℕ)
    → length p ≤ most_data
    → length q ≤ most_data
    → flat_map packet (p ∷ ps) ++ x ≡ flat_map packet (q ∷ qs) ++ y
    → (p ≡ q) × (flat_map packet ps ++ x ≡ flat_map packet qs ++ y)
behind p q ps qs x y short short' is =
    same_packet p q (flat_map packet ps ++ x) (flat_map packet qs ++ y) short short'
    (sym (append_assoc (packet p) (flat_map packet ps) x)
    ∙ is
    ∙ append_assoc (packet q) (flat_map packet qs) y)

pub same_parts : (due : ℕ) (ps qs : List (List ℕ)) (x y : List ℕ)
    → due ≤ most_data
    → Leaves due ps 0
    → Leaves due qs 0
    → flat_map packet ps ++ x ≡ flat_map packet qs ++ y
    → (ps ≡ qs) × (x ≡ y)
same_parts due [] [] x y fits a b is = (refl, is)
same_parts due [] (q ∷ qs) x y fits a b is = absurd (omega (arith, a, b.0))
same_parts due (p ∷ ps) [] x y fits a b is = absurd (omega (arith, a.0, b))
same_parts due (p ∷ ps) (q ∷ qs) x y fits a b is =
    let here = behind p q ps qs x y (omega (arith, a.1, fits)) (omega (arith, b.1, fits)) is in
    let more =
    same_parts (due - length p) ps qs x y (omega (arith, fits)) a.2
    (subst (λ (l : List ℕ). Leaves (due - length l) qs 0) (sym here.0) b.2) here.1 in
    (λ i. here.0 i ∷ more.0 i, more.1)

-- all of the data, or not
pub all_or_not : (count due : ℕ) (ps qs : List (List ℕ)) (still : ℕ) (x y : List ℕ) (end : End)
    → due ≤ most_data
    → Leaves due ps 0
    → 0 < still
    → Leaves due qs still
    → Breaks count still y end
    → flat_map packet ps ++ x ≡ flat_map packet qs ++ y
    → ⊥
all_or_not count due [] [] still x y end fits a some b breaks is = omega (arith, a, b, some)
all_or_not count due [] (q ∷ qs) still x y end fits a some b breaks is = omega (arith, a, b.0)
all_or_not count due (p ∷ ps) [] still x y end fits a some b breaks is =
    break_or_packet count due y end fits (subst (λ (n : ℕ). Breaks count n y end) b breaks) p
    (flat_map packet ps ++ x) a.1 (sym is ∙ append_assoc (packet p) (flat_map packet ps) x)
all_or_not count due (p ∷ ps) (q ∷ qs) still x y end fits a some b breaks is =
    let here = behind p q ps qs x y (omega (arith, a.1, fits)) (omega (arith, b.1, fits)) is in
    all_or_not count (due - length p) ps qs still x y end (omega (arith, fits)) a.2 some
    (subst (λ (l : List ℕ). Leaves (due - length l) qs still) (sym here.0) b.2) breaks here.1

same_break : (count due : ℕ) (ps qs : List (List ℕ)) (still other : ℕ) (x y : List ℕ) (d e : End)
    → due ≤ most_data
    → Leaves due ps still
    → Leaves due qs other
    → Breaks count still x d
    → Breaks count other y e
    → flat_map packet ps ++ x ≡ flat_map packet qs ++ y
    → d ≡ e
same_break count due [] [] still other x y d e fits a b u v is =
    one_break count due y d e
    (subst (λ (l : List ℕ). Breaks count due l d) is
    (subst (λ (n : ℕ). Breaks count n x d) a u)) (subst (λ (n : ℕ). Breaks count n y e) b v)
same_break count due [] (q ∷ qs) still other x y d e fits a b u v is =
    absurd
    (break_or_packet count due x d fits (subst (λ (n : ℕ). Breaks count n x d) a u) q
    (flat_map packet qs ++ y) b.1 (is ∙ append_assoc (packet q) (flat_map packet qs) y))
same_break count due (p ∷ ps) [] still other x y d e fits a b u v is =
    absurd
    (break_or_packet count due y e fits (subst (λ (n : ℕ). Breaks count n y e) b v) p
    (flat_map packet ps ++ x) a.1 (sym is ∙ append_assoc (packet p) (flat_map packet ps) x))
same_break count due (p ∷ ps) (q ∷ qs) still other x y d e fits a b u v is =
    let here = behind p q ps qs x y (omega (arith, a.1, fits)) (omega (arith, b.1, fits)) is in
    same_break count (due - length p) ps qs still other x y d e (omega (arith, fits)) a.2
    (subst (λ (l : List ℕ). Leaves (due - length l) qs other) (sym here.0) b.2) u v here.1

-- ---- what a command wants

wanted_fits : (refused : Bool) (r : Result Asked BadCommand) → wanted refused r ≤ most_data
wanted_fits true (Ok (Download size)) = omega arith
wanted_fits false (Ok (Download size)) = by_size (ltb most_data size) refl
  where
    by_size : (b : Bool) → ltb most_data size ≡ b → cond b 0 size ≤ most_data
    by_size true is = omega arith
    by_size false is = ltb-false most_data size is
wanted_fits refused (Ok BootAndEnd) = omega arith
wanted_fits refused (Ok MergeAll) = omega arith
wanted_fits refused (Ok (Getvar variable)) = omega arith
wanted_fits refused (Ok (Do command)) = omega arith
wanted_fits refused (Err bad) = omega arith

pub due_fits : (refused : Bool) (p : List ℕ) → due_of refused p ≤ most_data
unfolding due_of
due_fits refused p = wanted_fits refused (request_of p)

wanted_refused : (r : Result Asked BadCommand) → wanted true r ≡ 0
wanted_refused (Ok (Download size)) = refl
wanted_refused (Ok BootAndEnd) = refl
wanted_refused (Ok MergeAll) = refl
wanted_refused (Ok (Getvar variable)) = refl
wanted_refused (Ok (Do command)) = refl
wanted_refused (Err bad) = refl

-- where memory is refused there are no data
pub due_refused : (p : List ℕ) → due_of true p ≡ 0
unfolding due_of
due_refused p = wanted_refused (request_of p)

pub leave_some : (due : ℕ) (ps : List (List ℕ)) (still : ℕ)
    → 0 < still
    → Leaves due ps still
    → 0 < due
leave_some due [] still some leaves = omega (arith, some, leaves)
leave_some due (p ∷ ps) still some leaves = leaves.0

-- ---- one exchange

pub same_exchange : (s t : Exchange) (x y : List ℕ)
    → IsExchange s
    → IsExchange t
    → s.refused ≡ t.refused
    → spelled s ++ x ≡ spelled t ++ y
    → (s ≡ t) × (x ≡ y)
same_exchange s t x y a b flag is =
    let here =
    same_packet s.command t.command (flat_map packet s.parts ++ x)
    (flat_map packet t.parts ++ y) (omega (arith, a.short)) (omega (arith, b.short))
    (sym (append_assoc (packet s.command) (flat_map packet s.parts) x)
    ∙ is
    ∙ append_assoc (packet t.command) (flat_map packet t.parts) y) in
    let due : due_of t.refused t.command ≡ due_of s.refused s.command =
    λ i. due_of (sym flag i) (sym here.0 i) in
    let more =
    same_parts (due_of s.refused s.command) s.parts t.parts x y
    (due_fits s.refused s.command) a.all (subst (λ (n : ℕ). Leaves n t.parts 0) due b.all)
    here.1 in
    (λ i. record { command = here.0 i; refused = flag i; parts = more.0 i }, more.1)

-- an exchange stands whole, or the reading stops
stop_or_exchange : (count : ℕ) (rest : List ℕ) (u : Option (List ℕ)) (end : End)
    (refused : ℕ → Bool) (k : ℕ)
    → StopsWith count rest u end
    → Follows refused k [] u
    → (s : Exchange) (later : List ℕ)
    → IsExchange s
    → s.refused ≡ refused k
    → rest ≡ spelled s ++ later
    → ⊥
stop_or_exchange count rest None end refused k stops follows s later a flag is =
    stop_or_packet count rest end stops s.command (flat_map packet s.parts ++ later) a.short
    (is ∙ append_assoc (packet s.command) (flat_map packet s.parts) later)
stop_or_exchange count rest (Some p) end refused k stops follows s later a flag is =
    let here =
    same_packet s.command p (flat_map packet s.parts ++ later)
    (flat_map packet stops.parts ++ stops.rest) (omega (arith, a.short))
    (omega (arith, stops.short))
    (sym (append_assoc (packet s.command) (flat_map packet s.parts) later) ∙ sym is ∙ stops.is) in
    let due : due_of s.refused s.command ≡ due_of false p =
    λ i. due_of ((flag ∙ follows) i) (here.0 i) in
    all_or_not count (due_of false p) s.parts stops.parts stops.still later stops.rest end
    (due_fits false p) (subst (λ (n : ℕ). Leaves n s.parts 0) due a.all) stops.some
    stops.leaves stops.breaks here.1

-- the reading stops in one way
same_stop : (count : ℕ) (rest : List ℕ) (u v : Option (List ℕ)) (d e : End)
    → StopsWith count rest u d
    → StopsWith count rest v e
    → (u ≡ v) × (d ≡ e)
same_stop count rest None None d e a b = (refl, one_stop count rest d e a b)
same_stop count rest None (Some q) d e a b =
    absurd (stop_or_packet count rest d a q (flat_map packet b.parts ++ b.rest) b.short b.is)
same_stop count rest (Some p) None d e a b =
    absurd (stop_or_packet count rest e b p (flat_map packet a.parts ++ a.rest) a.short a.is)
same_stop count rest (Some p) (Some q) d e a b =
    let here =
    same_packet p q (flat_map packet a.parts ++ a.rest) (flat_map packet b.parts ++ b.rest)
    (omega (arith, a.short)) (omega (arith, b.short)) (sym a.is ∙ b.is) in (
      ap Some here.0,
      same_break count (due_of false p) a.parts b.parts a.still b.still a.rest b.rest d e
          (due_fits false p) a.leaves
          (subst (λ (l : List ℕ). Leaves (due_of false l) b.parts b.still) (sym here.0) b.leaves)
          a.breaks b.breaks here.1,
    )

-- ---- all of them

-- what was read of the same bytes is one
pub same_read : (count : ℕ) (refused : ℕ → Bool) (k : ℕ) (bytes : List ℕ) (ss ts : List Exchange)
    (u v : Option (List ℕ)) (d e : End)
    → IsRead count bytes ss u d
    → IsRead count bytes ts v e
    → Follows refused k ss u
    → Follows refused k ts v
    → (ss ≡ ts) × (u ≡ v) × (d ≡ e)
same_read count refused k bytes [] [] u v d e a b f g =
    let both = same_stop count bytes u v d e a b in (refl, both.0, both.1)
same_read count refused k bytes [] (t ∷ ts) u v d e a b f g =
    absurd (stop_or_exchange count bytes u d refused k a f t b.0 b.2 g.0 b.1)
same_read count refused k bytes (s ∷ ss) [] u v d e a b f g =
    absurd (stop_or_exchange count bytes v e refused k b g s a.0 a.2 f.0 a.1)
same_read count refused k bytes (s ∷ ss) (t ∷ ts) u v d e a b f g =
    let here = same_exchange s t a.0 b.0 a.2 b.2 (f.0 ∙ sym g.0) (sym a.1 ∙ b.1) in
    ⊎_elim
    (λ last. ⊎_elim
    (λ other. (
      λ i. here.0 i ∷ (last.1.0 ∙ sym other.1.0) i,
      last.1.1
          ∙ sym other.1.1,
      last.1.2
          ∙ sym other.1.2,
    ))
    (λ on. let is : ends_session s.command ≡ false =
    ap (λ (x : Exchange). ends_session x.command) here.0 ∙ on.0 in let ends = last.0 in cc)
    b.3)
    (λ on. ⊎_elim
    (λ last. let is : ends_session s.command ≡ true =
    ap (λ (x : Exchange). ends_session x.command) here.0 ∙ last.0 in let goes = on.0 in cc)
    (λ other.
    let more =
    same_read count refused (suc k) a.0 ss ts u v d e on.1
    (subst (λ (l : List ℕ). IsRead count l ts v e) (sym here.1) other.1) f.1 g.1 in
    (λ i. here.0 i ∷ more.0 i, more.1, more.2))
    b.3)
    a.3

-- ---- there is one

-- bytes
abbrev pub AreBytes : List ℕ → Type 0
AreBytes bytes = (k : ℕ) → get_or bytes k 0 < 256

pub taken_byte : (l : List ℕ) (n i : ℕ) → AreBytes l → get_or (take n l) i 0 < 256
taken_byte [] zero i are = omega arith
taken_byte [] (suc n) i are = omega arith
taken_byte (x ∷ l) zero i are = omega arith
taken_byte (x ∷ l) (suc n) zero are = are 0
taken_byte (x ∷ l) (suc n) (suc i) are = taken_byte l n i (λ k. are (suc k))

pub later_byte : (bytes front later : List ℕ)
    → bytes ≡ front ++ later
    → AreBytes bytes
    → AreBytes later
later_byte bytes front later is are k =
    let same : get_or later k 0 ≡ get_or bytes (length front + k) 0 =
    sym (get_or-append-add front later k 0)
    ∙ ap (λ (l : List ℕ). get_or l (length front + k) 0) (sym is) in
    omega (arith, same, are (length front + k))

-- a whole packet stands at the front
pub record Front (most : ℕ) (bytes : List ℕ) : Type 0 where
  pub body : List ℕ
  pub later : List ℕ
  pub fits : length body ≤ most
  pub is : bytes ≡ packet body ++ later
  pub are : AreBytes later

-- a packet that fits, one that doesn't, or less than one
front_of : (most : ℕ) (bytes : List ℕ)
    → AreBytes bytes
    → Front most bytes ⊎ (IsAbove most bytes (length_at bytes) ⊎ IsCutShort most bytes)
front_of most bytes are =
    elim (cases_eq (8 - length bytes) 0) [
      | inl eight ↦ elim (cases_eq (length_at bytes - most) 0) [
        | inl fits ↦ elim (cases_eq (8 + length_at bytes - length bytes) 0) [
          | inl whole ↦
              let n = length_at bytes in
              let head : take 8 bytes ≡ to_be_bytes w64 n =
              sym
              (be_bytes_8 (take 8 bytes) n (omega (arith, length-take 8 bytes, eight))
              (λ i. taken_byte bytes 8 i are) refl) in
              let body = take n (drop 8 bytes) in
              let later = drop n (drop 8 bytes) in
              let long : length body ≡ n =
              omega (arith, length-take n (drop 8 bytes), length-drop 8 bytes, whole, eight)
              in
              let is : bytes ≡ packet body ++ later =
              is_packet bytes later body n head long
              (sym (take-append-drop n (drop 8 bytes))) in
              inl
              (record {
                body = body;
                later = later;
                fits = omega (arith, long, fits);
                is = is;
                are = later_byte bytes (packet body) later is are;
              })
          | inr cut ↦ inr (inr (inr (omega (arith, fits), omega (arith, cut))))
        ]
        | inr above ↦ inr (inl (omega (arith, eight), refl, omega (arith, above)))
      ]
      | inr few ↦ inr (inr (inl (omega (arith, few))))
    ]

-- all the data, and what follows
pub record Data (due : ℕ) (bytes : List ℕ) : Type 0 where
  pub parts : List (List ℕ)
  pub later : List ℕ
  pub all : Leaves due parts 0
  pub is : bytes ≡ flat_map packet parts ++ later
  pub are : AreBytes later
  pub fewer : length later ≤ length bytes

-- some, and how they end
pub record Broken (count due : ℕ) (bytes : List ℕ) : Type 0 where
  pub parts : List (List ℕ)
  pub rest : List ℕ
  pub still : ℕ
  pub end : End
  pub some : 0 < still
  pub leaves : Leaves due parts still
  pub is : bytes ≡ flat_map packet parts ++ rest
  pub breaks : Breaks count still rest end

pub data_of : (fuel count due : ℕ) (bytes : List ℕ)
    → length bytes ≤ fuel
    → due ≤ most_data
    → AreBytes bytes
    → Data due bytes ⊎ Broken count due bytes
data_of fuel count zero bytes fits small are =
    inl
    (record { parts = []; later = bytes; all = refl; is = refl; are = are; fewer = omega arith })
data_of zero count (suc due) bytes fits small are =
    inr
    (record {
      parts = [];
      rest = bytes;
      still = suc due;
      end = Cut count;
      some = omega arith;
      leaves = refl;
      is = refl;
      breaks = (refl, inl (omega (arith, fits)));
    })
data_of (suc fuel) count (suc due) bytes fits small are = ⊎_elim
    (λ front.
    let shorter : length front.later ≤ fuel =
    omega (arith, fits, ap length front.is, long_packet front.body front.later) in
    ⊎_elim
    (λ whole. inl (record {
      parts = front.body ∷ whole.parts;
      later = whole.later;
      all = (omega arith, front.fits, whole.all);
      is =
          front.is
          ∙ ap (λ (l : List ℕ). packet front.body ++ l) whole.is
          ∙ sym (append_assoc (packet front.body) (flat_map packet whole.parts) whole.later);
      are = whole.are;
      fewer = omega (arith, whole.fewer, ap length front.is, long_packet front.body front.later);
    }))
    (λ broken. inr (record {
      parts = front.body ∷ broken.parts;
      rest = broken.rest;
      still = broken.still;
      end = broken.end;
      some = broken.some;
      leaves = (omega arith, front.fits, broken.leaves);
      is =
          front.is
          ∙ ap (λ (l : List ℕ). packet front.body ++ l) broken.is
          ∙ sym (append_assoc (packet front.body) (flat_map packet broken.parts) broken.rest);
      breaks = broken.breaks;
    }))
    (data_of fuel count (suc due - length front.body) front.later shorter (omega (arith, small))
    front.are))
    (λ stop. inr (⊎_elim
    (λ above.
    record {
      parts = [];
      rest = bytes;
      still = suc due;
      end = Overrun (suc due) (length_at bytes);
      some = omega arith;
      leaves = refl;
      is = refl;
      breaks = (refl, above);
    })
    (λ cut.
    record {
      parts = [];
      rest = bytes;
      still = suc due;
      end = Cut count;
      some = omega arith;
      leaves = refl;
      is = refl;
      breaks = (refl, cut);
    })
    stop))
    (front_of (suc due) bytes are)

-- an exchange, and what follows
pub record Whole (refused : Bool) (bytes : List ℕ) : Type 0 where
  pub exchange : Exchange
  pub later : List ℕ
  pub whole : IsExchange exchange
  pub flag : exchange.refused ≡ refused
  pub is : bytes ≡ spelled exchange ++ later
  pub are : AreBytes later
  pub shorter : length later < length bytes

-- none
pub record Stopped (count : ℕ) (refused : ℕ → Bool) (k : ℕ) (bytes : List ℕ) : Type 0 where
  pub unfinished : Option (List ℕ)
  pub end : End
  pub stops : StopsWith count bytes unfinished end
  pub follows : Follows refused k [] unfinished

exchange_of : (count : ℕ) (refused : ℕ → Bool) (k : ℕ) (bytes : List ℕ)
    → AreBytes bytes
    → Whole (refused k) bytes ⊎ Stopped count refused k bytes
exchange_of count refused k bytes are = ⊎_elim
    (λ front. ⊎_elim
    (λ whole. inl (record {
      exchange = record { command = front.body; refused = refused k; parts = whole.parts };
      later = whole.later;
      whole = record { short = front.fits; all = whole.all };
      flag = refl;
      is =
          front.is
          ∙ ap (λ (l : List ℕ). packet front.body ++ l) whole.is
          ∙ sym (append_assoc (packet front.body) (flat_map packet whole.parts) whole.later);
      are = whole.are;
      shorter = omega (arith, whole.fewer, ap length front.is, long_packet front.body front.later);
    }))
    (λ broken. ⊎_elim
    (λ no. absurd
    (omega (
      arith,
      leave_some (due_of (refused k) front.body) broken.parts broken.still broken.some
          broken.leaves,
      ap (λ b. due_of b front.body) no ∙ due_refused front.body,
    )))
    (λ yes. inr (record {
      unfinished = Some front.body;
      end = broken.end;
      stops = record {
        parts = broken.parts;
        rest = broken.rest;
        still = broken.still;
        is = front.is ∙ ap (λ (l : List ℕ). packet front.body ++ l) broken.is;
        short = front.fits;
        some = broken.some;
        leaves =
            subst (λ b. Leaves (due_of b front.body) broken.parts broken.still) yes
            broken.leaves;
        breaks = broken.breaks;
      };
      follows = yes;
    }))
    (cases_Bool (refused k)))
    (data_of (length front.later) count (due_of (refused k) front.body) front.later (omega arith)
    (due_fits (refused k) front.body) front.are))
    (λ stop. inr (⊎_elim
    (λ above.
    record { unfinished = None; end = TooLong (length_at bytes); stops = above; follows = tt })
    (λ cut. empty_or bytes cut)
    stop))
    (front_of 4096 bytes are)
  where
    empty_or : (l : List ℕ) → IsCutShort 4096 l → Stopped count refused k l
    empty_or [] cut = record { unfinished = None; end = Closed; stops = refl; follows = tt }
    empty_or (x ∷ xs) cut =
        record {
          unfinished = None;
          end = Cut count;
          stops = (refl, omega arith, cut);
          follows = tt;
        }

-- exchanges, and how they end
pub record Split (count : ℕ) (refused : ℕ → Bool) (k : ℕ) (bytes : List ℕ) : Type 0 where
  pub exchanges : List Exchange
  pub unfinished : Option (List ℕ)
  pub end : End
  pub read : IsRead count bytes exchanges unfinished end
  pub follows : Follows refused k exchanges unfinished

last_one : (count : ℕ) (refused : ℕ → Bool) (k : ℕ) (bytes : List ℕ)
    (one : Whole (refused k) bytes)
    → ends_session one.exchange.command ≡ true
    → Split count refused k bytes
last_one count refused k bytes one last = record {
  exchanges = one.exchange ∷ [];
  unfinished = None;
  end = Rebooted;
  read = (one.later, one.is, one.whole, inl (last, (refl, refl, refl)));
  follows = (one.flag, tt);
}

one_more : (count : ℕ) (refused : ℕ → Bool) (k : ℕ) (bytes : List ℕ)
    (one : Whole (refused k) bytes)
    → ends_session one.exchange.command ≡ false
    → Split count refused (suc k) one.later
    → Split count refused k bytes
one_more count refused k bytes one on rest = record {
  exchanges = one.exchange ∷ rest.exchanges;
  unfinished = rest.unfinished;
  end = rest.end;
  read = (one.later, one.is, one.whole, inr (on, rest.read));
  follows = (one.flag, rest.follows);
}

pub split_of : (fuel count : ℕ) (refused : ℕ → Bool) (k : ℕ) (bytes : List ℕ)
    → length bytes ≤ fuel
    → AreBytes bytes
    → Split count refused k bytes
split_of zero count refused k bytes fits are = ⊎_elim
    (λ one. absurd (omega (arith, one.shorter, fits)))
    (λ stop.
    record {
      exchanges = [];
      unfinished = stop.unfinished;
      end = stop.end;
      read = stop.stops;
      follows = stop.follows;
    })
    (exchange_of count refused k bytes are)
split_of (suc fuel) count refused k bytes fits are = ⊎_elim
    (λ one. ⊎_elim
    (last_one count refused k bytes one)
    (λ on. one_more count refused k bytes one on
    (split_of fuel count refused (suc k) one.later (omega (arith, one.shorter, fits)) one.are))
    (cases_Bool (ends_session one.exchange.command)))
    (λ stop.
    record {
      exchanges = [];
      unfinished = stop.unfinished;
      end = stop.end;
      read = stop.stops;
      follows = stop.follows;
    })
    (exchange_of count refused k bytes are)
