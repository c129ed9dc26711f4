-- What an event of the framer says of all the bytes that are to come.
use Rattle.std.proofs.Common.{◌≡◌, ◌≢◌, ◌⊎◌, inl, inr, ⊎_elim, ℕ, ◌+◌, ◌-◌, ◌<◌, ◌≤◌, min, Bool}
use Rattle.std.proofs.Common.{true, false, cond, ◌==◌, ◌&&◌, nat_lt, Ok, Err, List, [], ◌++◌}
use Rattle.std.proofs.Common.{length, take, drop, slice_range, refl, sym, ◌∙◌, ap, arith}
use Rattle.std.proofs.Common.{length-append, length-take, append_assoc, take-append-drop}
use Rattle.std.proofs.lemmas.List.{take-append-le, take-take, drop-take}
use Rattle.std.proofs.Math.Seq.{take-nil}
use Rattle.std.proofs.lemmas.Bool.{and_parts, eqb-true, ltb-true}
use Rattle.std.proofs.lemmas.Bool.Decides.{nat_tests}
use Rattle.std.specs.Int.{w64, from_be_bytes}
use Rattle.vab_fbtcp.specs.Hello.{is_hello, version_of}
use Rattle.vab_fbtcp.specs.Frame.{Found, Version, Header, Part, More, next_of, found_of, bytes_of}
use Rattle.vab_fbtcp.specs.Frame.{body_place, place_after, IsPart}
use Rattle.vab_fbtcp.specs.declared.event.Event.{Event}
use Rattle.vab_fbtcp.specs.declared.event.Event.TheVariants as events
use Rattle.vab_fbtcp.specs.declared.event.FrameFault.{FrameFault}
use Rattle.vab_fbtcp.specs.declared.event.FrameFault.TheVariants.{BadHello, TooLong}
use Rattle.vab_fbtcp.specs.declared.event.Place.{Place}
use Rattle.vab_fbtcp.specs.declared.event.Place.TheVariants.{Hello, Length, Body}
use Rattle.vab_exchanges.specs.Reading.{Suits, IsNext, FaultAt, fault_of_frame}

-- which way a test went
pub chosen : {A : Type 0} (b : Bool) (x y z : A)
    → cond b x y ≡ z
    → ((b ≡ true) × (x ≡ z)) ⊎ ((b ≡ false) × (y ≡ z))
chosen true x y z is = inl (refl, is)
chosen false x y z is = inr (refl, is)

-- what the tests say at the hello and at a length
hello_found : (due : ℕ) (bytes : List ℕ) (found : Found)
    → next_of due Hello bytes ≡ Ok found
    → ((found ≡ More) × (length bytes < 4))
    ⊎
    ((found ≡ Version (version_of (take 4 bytes)))
    × (4 ≤ length bytes)
    × (is_hello (take 4 bytes) ≡ true))
hello_found due bytes found is = ⊎_elim
    (λ short. inl (cc, grind (arith, nat_tests)))
    (λ long. ⊎_elim
    (λ yes. inr (cc, grind (arith, nat_tests), yes.0))
    (λ no. cc no.1)
    (chosen (is_hello (take 4 bytes)) (Ok (Version (version_of (take 4 bytes)))) (Err BadHello)
    (Ok found) long.1))
    (chosen (nat_lt (length bytes) 4) (Ok More)
    (cond (is_hello (take 4 bytes)) (Ok (Version (version_of (take 4 bytes)))) (Err BadHello))
    (Ok found) is)

length_found : (due : ℕ) (bytes : List ℕ) (found : Found)
    → next_of due Length bytes ≡ Ok found
    → ((found ≡ More) × (length bytes < 8))
    ⊎
    ((found ≡ Header (from_be_bytes w64 (take 8 bytes)))
    × (8 ≤ length bytes)
    × (due ≡ 0 → from_be_bytes w64 (take 8 bytes) ≤ 4096))
length_found due bytes found is = ⊎_elim
    (λ short. inl (cc, grind (arith, nat_tests)))
    (λ long. ⊎_elim
    (λ too_long. cc too_long.1)
    (λ fits. inr
    (cc, grind (arith, nat_tests), fits_where (from_be_bytes w64 (take 8 bytes)) fits.0))
    (chosen (due == 0 && nat_lt 4096 (from_be_bytes w64 (take 8 bytes)))
    (Err (TooLong (from_be_bytes w64 (take 8 bytes))))
    (Ok (Header (from_be_bytes w64 (take 8 bytes)))) (Ok found) long.1))
    (chosen (nat_lt (length bytes) 8) (Ok More)
    (cond (due == 0 && nat_lt 4096 (from_be_bytes w64 (take 8 bytes)))
    (Err (TooLong (from_be_bytes w64 (take 8 bytes))))
    (Ok (Header (from_be_bytes w64 (take 8 bytes))))) (Ok found) is)
  where
    fits_where : (n : ℕ) → (due == 0 && nat_lt 4096 n) ≡ false → due ≡ 0 → n ≤ 4096
    fits_where n test none = grind (arith, nat_tests)

part_found : (due left : ℕ) (bytes : List ℕ) (found : Found)
    → next_of due (Body left) bytes ≡ Ok found
    → ((found ≡ More) × (length bytes ≡ 0))
    ⊎ ((found ≡ Part (min left (length bytes))) × (0 < length bytes))
part_found due left bytes found is = ⊎_elim
    (λ none. inl (cc, grind (arith, nat_tests)))
    (λ some. inr (cc, grind (arith, nat_tests)))
    (chosen (length bytes == 0) (Ok More) (Ok (Part (min left (length bytes)))) (Ok found) is)

-- The event suits the place, and it is that of all the bytes that are to come.
pub record Found_at (due : ℕ) (place : Place) (unread piece : List ℕ) (event : Event) : Type 0 where
  pub suits : Suits due place event
  pub next : (more : List ℕ) → IsNext (unread ++ more) piece event
  pub taken : bytes_of (found_of event) ≤ length unread

front : (n : ℕ) (bytes more : List ℕ) → n ≤ length bytes → take n (bytes ++ more) ≡ take n bytes
front n bytes more fits = take-append-le n bytes more fits

pub event_found : (due : ℕ) (place : Place) (unread piece : List ℕ) (event : Event)
    → next_of due place unread ≡ Ok (found_of event)
    → event ≢ events.NeedMore
    → length piece ≡ 4096
    → IsPart event piece unread
    → Found_at due place unread piece event
event_found due Hello unread piece (events.Hello v) is other long part = ⊎_elim
    (λ more. cc more.0)
    (λ yes. record {
      suits = tt;
      next =
          λ rest. (
            omega (arith, yes.1, length-append unread rest),
            ap is_hello (front 4 unread rest yes.1) ∙ yes.2,
          );
      taken = yes.1;
    })
    (hello_found due unread (Version v) is)
event_found due Hello unread piece (events.Head n) is other long part = ⊎_elim
    (λ more. cc more.0)
    (λ yes. cc yes.0)
    (hello_found due unread (Header n) is)
event_found due Hello unread piece (events.Piece range) is other long part = ⊎_elim
    (λ more. cc more.0)
    (λ yes. cc yes.0)
    (hello_found due unread (Part (range.end - range.start)) is)
event_found due Length unread piece (events.Head n) is other long part = ⊎_elim
    (λ more. cc more.0)
    (λ yes.
    let same : n ≡ from_be_bytes w64 (take 8 unread) = cc yes.0 in
    record {
      suits = λ none. let fits = yes.2 none in omega (arith, same, fits);
      next =
          λ rest. (
            omega (arith, yes.1, length-append unread rest),
            same ∙ ap (from_be_bytes w64) (sym (front 8 unread rest yes.1)),
            front 8 unread rest yes.1 ∙ part,
          );
      taken = yes.1;
    })
    (length_found due unread (Header n) is)
event_found due Length unread piece (events.Hello v) is other long part = ⊎_elim
    (λ more. cc more.0)
    (λ yes. cc yes.0)
    (length_found due unread (Version v) is)
event_found due Length unread piece (events.Piece range) is other long part = ⊎_elim
    (λ more. cc more.0)
    (λ yes. cc yes.0)
    (length_found due unread (Part (range.end - range.start)) is)
event_found due (Body left) unread piece (events.Piece range) is other long part = ⊎_elim
    (λ more. cc more.0)
    (λ yes.
    let same : range.end - range.start ≡ min left (length unread) = cc yes.0 in
    let fits : range.end - range.start ≤ length unread = omega (arith, same) in
    record {
      suits = (part.1, omega (arith, part.2, long), omega (arith, same));
      next =
          λ rest. (
            omega (arith, fits, length-append unread rest),
            part.0 ∙ sym (front (range.end - range.start) unread rest fits),
          );
      taken = fits;
    })
    (part_found due left unread (Part (range.end - range.start)) is)
event_found due (Body left) unread piece (events.Hello v) is other long part = ⊎_elim
    (λ more. cc more.0)
    (λ yes. cc yes.0)
    (part_found due left unread (Version v) is)
event_found due (Body left) unread piece (events.Head n) is other long part = ⊎_elim
    (λ more. cc more.0)
    (λ yes. cc yes.0)
    (part_found due left unread (Header n) is)
event_found due Hello unread piece events.NeedMore is other long part = absurd (other refl)
event_found due Length unread piece events.NeedMore is other long part = absurd (other refl)
event_found due (Body left) unread piece events.NeedMore is other long part = absurd (other refl)

-- a fault, likewise
pub fault_found : (due : ℕ) (place : Place) (unread more : List ℕ) (fault : FrameFault)
    → next_of due place unread ≡ Err fault
    → FaultAt due place (unread ++ more) (fault_of_frame fault)
fault_found due Hello unread more BadHello is = ⊎_elim
    (λ short. cc short.1)
    (λ long. ⊎_elim
    (λ yes. cc yes.1)
    (λ no.
    let fits : 4 ≤ length unread = grind (arith, nat_tests) in (
      refl,
      omega (arith, fits, length-append unread more),
      ap is_hello (front 4 unread more fits) ∙ no.0,
    ))
    (chosen (is_hello (take 4 unread)) (Ok (Version (version_of (take 4 unread)))) (Err BadHello)
    (Err BadHello) long.1))
    (chosen (nat_lt (length unread) 4) (Ok More)
    (cond (is_hello (take 4 unread)) (Ok (Version (version_of (take 4 unread)))) (Err BadHello))
    (Err BadHello) is)
fault_found due Hello unread more (TooLong n) is = ⊎_elim
    (λ short. cc short.1)
    (λ long. ⊎_elim
    (λ yes. cc yes.1)
    (λ no. cc no.1)
    (chosen (is_hello (take 4 unread)) (Ok (Version (version_of (take 4 unread)))) (Err BadHello)
    (Err (TooLong n)) long.1))
    (chosen (nat_lt (length unread) 4) (Ok More)
    (cond (is_hello (take 4 unread)) (Ok (Version (version_of (take 4 unread)))) (Err BadHello))
    (Err (TooLong n)) is)
fault_found due Length unread more (TooLong n) is = ⊎_elim
    (λ short. cc short.1)
    (λ long. ⊎_elim
    (λ too_long.
    let fits : 8 ≤ length unread = grind (arith, nat_tests) in
    let same : n ≡ from_be_bytes w64 (take 8 unread) = cc too_long.1 in
    let tests = and_parts (due == 0) (nat_lt 4096 (from_be_bytes w64 (take 8 unread))) too_long.0 in
    let none_due : due ≡ 0 = eqb-true due 0 tests.0 in
    let above : 4096 < from_be_bytes w64 (take 8 unread) =
    ltb-true 4096 (from_be_bytes w64 (take 8 unread)) tests.1 in (
      refl,
      none_due,
      (
        omega (arith, fits, length-append unread more),
        same ∙ ap (from_be_bytes w64) (sym (front 8 unread more fits)),
        omega (arith, same, above),
      ),
    ))
    (λ ok. cc ok.1)
    (chosen (due == 0 && nat_lt 4096 (from_be_bytes w64 (take 8 unread)))
    (Err (TooLong (from_be_bytes w64 (take 8 unread))))
    (Ok (Header (from_be_bytes w64 (take 8 unread)))) (Err (TooLong n)) long.1))
    (chosen (nat_lt (length unread) 8) (Ok More)
    (cond (due == 0 && nat_lt 4096 (from_be_bytes w64 (take 8 unread)))
    (Err (TooLong (from_be_bytes w64 (take 8 unread))))
    (Ok (Header (from_be_bytes w64 (take 8 unread))))) (Err (TooLong n)) is)
fault_found due Length unread more BadHello is = ⊎_elim
    (λ short. cc short.1)
    (λ long. ⊎_elim
    (λ too_long. cc too_long.1)
    (λ ok. cc ok.1)
    (chosen (due == 0 && nat_lt 4096 (from_be_bytes w64 (take 8 unread)))
    (Err (TooLong (from_be_bytes w64 (take 8 unread))))
    (Ok (Header (from_be_bytes w64 (take 8 unread)))) (Err BadHello) long.1))
    (chosen (nat_lt (length unread) 8) (Ok More)
    (cond (due == 0 && nat_lt 4096 (from_be_bytes w64 (take 8 unread)))
    (Err (TooLong (from_be_bytes w64 (take 8 unread))))
    (Ok (Header (from_be_bytes w64 (take 8 unread))))) (Err BadHello) is)
fault_found due (Body left) unread more fault is = ⊎_elim
    (λ none. cc none.1)
    (λ some. cc some.1)
    (chosen (length unread == 0) (Ok More) (Ok (Part (min left (length unread)))) (Err fault) is)

-- a part of a front of the buffer is a part of the buffer
part_of_front : (n s e : ℕ) (piece : List ℕ)
    → s ≤ e
    → e ≤ n
    → slice_range (take n piece) s e ≡ slice_range piece s e
part_of_front n s e piece order within =
    let sum : s + (n - s) ≡ n = omega arith in
    let moved : drop s (take n piece) ≡ take (n - s) (drop s piece) =
    ap (λ (k : ℕ). drop s (take k piece)) (sym sum) ∙ drop-take s (n - s) piece in
    ap (λ (l : List ℕ). take (e - s) l) moved
    ∙ take-take (e - s) (n - s) (drop s piece) (omega arith)

pub part_in_buffer : (event : Event) (fed piece unread : List ℕ)
    → fed ≡ take (length fed) piece
    → length piece ≡ 4096
    → IsPart event fed unread
    → IsPart event piece unread
part_in_buffer (events.Piece range) fed piece unread front long part =
    let shorter : length fed ≤ length piece =
    omega (arith, ap length front, length-take (length fed) piece) in
    let same : slice_range fed range.start range.end ≡ slice_range piece range.start range.end =
    ap (λ (l : List ℕ). slice_range l range.start range.end) front
    ∙ part_of_front (length fed) range.start range.end piece (omega (arith, part.1)) part.2
    in
    (sym same ∙ part.0, part.1, omega (arith, part.2, shorter))
part_in_buffer (events.Hello v) fed piece unread front long part = tt
part_in_buffer (events.Head n) fed piece unread front long part = part
part_in_buffer events.NeedMore fed piece unread front long part = tt

-- nothing more comes: what has come is all
pub nothing_more : (taken most : ℕ) (left : List ℕ)
    → (taken ≡ most) ⊎ (left ≡ [])
    → take (most - taken) left ≡ []
nothing_more taken most left (inl all) =
    let none : most - taken ≡ 0 = omega arith in ap (λ (k : ℕ). take k left) none
nothing_more taken most left (inr none) =
    ap (λ (l : List ℕ). take (most - taken) l) none ∙ take-nil (most - taken)

pub place_after-More : (place : Place) → place_after place More ≡ place
place_after-More Hello = refl
place_after-More Length = refl
place_after-More (Body left) = refl

-- in the middle of a packet, a part of it
pub body_some : (left : ℕ) → 0 < left → body_place left ≡ Body left
body_some left some = grind (arith, nat_tests)

pub place_after-Part : (left n : ℕ)
    → 0 < left
    → place_after (body_place left) (Part n) ≡ body_place (left - n)
place_after-Part left n some = ap (λ p. place_after p (Part n)) (body_some left some)

-- a part of the packet goes over to what has been read of it
pub part_read : (packet rest part : List ℕ) (n : ℕ)
    → part ≡ take n rest
    → packet ++ rest ≡ (packet ++ part) ++ drop n rest
part_read packet rest part n is =
    ap (λ (l : List ℕ). packet ++ l)
    (sym (take-append-drop n rest) ∙ ap (λ (l : List ℕ). l ++ drop n rest) (sym is))
    ∙ sym (append_assoc packet part (drop n rest))
