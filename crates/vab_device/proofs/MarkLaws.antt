-- The slot of an update mark is a or b, and which flags it may have.
use Rattle.std.proofs.Common.{◌≡◌, ◌∙◌, inl, inr, ℕ, zero, suc, ◌<◌, List, Result, Ok, Err, refl}
use Rattle.std.proofs.Common.{ap, sym}
use Rattle.std.proofs.Common.{subst}
use Rattle.std.specs.Prelude.{Bool, true, false, not, ◌&&◌, ◌||◌, IsTrue, nat_lt, slice_index}
use Rattle.std.specs.Prelude.{Option, Some, None, ok_or, option_map, ◌==◌}
use Rattle.std.proofs.lemmas.Bool.{cases_Bool, and_parts, ltb-true}
use Rattle.vab_bytes.specs.Number.{field}
use Rattle.vab_marks.specs.declared.mark.MarkPhase.{MarkPhase}
use Rattle.vab_marks.specs.declared.mark.MarkPhase.TheVariants as marks
use Rattle.vab_marks.specs.declared.mark.UpdateMark.{UpdateMark}
use Rattle.vab_marks.specs.declared.sector.MarkFault.{MarkFault}
use Rattle.vab_marks.specs.declared.sector.MarkFault.TheVariants.{BadField}
use Rattle.vab_marks.specs.Mark.{mark_magic, mark_fields, mark_of, mark_by, with_physical}
use Rattle.vab_marks.specs.Mark.{may_stand_apart, is_idle, FlagsFit, rephased, resloted}
use Rattle.vab_marks.specs.Version.{is_version}
use Rattle.vab_marks.specs.Sector.{are_zeros, head_fault}
use Rattle.vab_marks.specs.Sector as sectors

-- what is taken is the mark
taken : (slot : ℕ) (k m : UpdateMark)
    → (let read : Result UpdateMark MarkFault = Ok k in read ≡ Ok m)
    → m ≡ k
taken slot k m is = cc

-- the mark of a byte has the slot
slot_of : (slot byte : ℕ) (m : UpdateMark)
    → ok_or (mark_by slot byte) BadField ≡ Ok m
    → m.slot ≡ slot
slot_of slot zero m is = ap (λ (x : UpdateMark). x.slot) (taken slot _ m is)
slot_of slot (suc zero) m is = ap (λ (x : UpdateMark). x.slot) (taken slot _ m is)
slot_of slot (suc (suc zero)) m is = ap (λ (x : UpdateMark). x.slot) (taken slot _ m is)
slot_of slot (suc (suc (suc zero))) m is = ap (λ (x : UpdateMark). x.slot) (taken slot _ m is)
slot_of slot (suc (suc (suc (suc zero)))) m is =
    ap (λ (x : UpdateMark). x.slot) (taken slot _ m is)
slot_of slot (suc (suc (suc (suc (suc zero))))) m is =
    ap (λ (x : UpdateMark). x.slot) (taken slot _ m is)
slot_of slot (suc (suc (suc (suc (suc (suc zero)))))) m is =
    ap (λ (x : UpdateMark). x.slot) (taken slot _ m is)
slot_of slot (suc (suc (suc (suc (suc (suc (suc zero))))))) m is =
    ap (λ (x : UpdateMark). x.slot) (taken slot _ m is)
slot_of slot (suc (suc (suc (suc (suc (suc (suc (suc n)))))))) m is = absurd cc

-- the flag of physical partitions is the only thing that is added to the mark of a byte
added : (p : Bool) (o : Option UpdateMark) (m : UpdateMark)
    → ok_or (option_map (with_physical p) o) BadField ≡ Ok m
    → (k : UpdateMark)
    × (ok_or o BadField ≡ Ok k)
    × (with_physical p k ≡ m)
added p None m is = absurd cc
added p (Some k) m is = (k, refl, cc)

-- that byte, and the flag
flagged : List ℕ → Bool
flagged bytes = nat_lt (slice_index bytes 7) 2 && are_zeros (field bytes 8 500)

-- what the fields of a mark say is the mark of its byte, and the flag
record AreFields (bytes : List ℕ) (m : UpdateMark) : Type 0 where
  low : slice_index bytes 6 < 2
  plain : UpdateMark
  is : ok_or (mark_by (slice_index bytes 6) (slice_index bytes 5)) BadField ≡ Ok plain
  same : with_physical (slice_index bytes 7 == 1) plain ≡ m

fields_are : (bytes : List ℕ) (m : UpdateMark) → mark_fields bytes ≡ Ok m → AreFields bytes m
unfolding flagged
fields_are bytes m is =
    elim (cases_Bool (nat_lt (slice_index bytes 6) 2 && flagged bytes)) [
      | inl both ↦
          let taken : ok_or
          (option_map (with_physical (slice_index bytes 7 == 1))
          (mark_by (slice_index bytes 6) (slice_index bytes 5)))
          BadField
          ≡ Ok m =
          rw both at is in
          let parts = and_parts (nat_lt (slice_index bytes 6) 2) (flagged bytes) both in
          let a = added (slice_index bytes 7 == 1)
          (mark_by (slice_index bytes 6) (slice_index bytes 5)) m taken in
          record {
            low = ltb-true (slice_index bytes 6) 2 parts.0;
            plain = a.0;
            is = a.1;
            same = a.2;
          }
      | inr not ↦
          let bad : (let x : Result UpdateMark MarkFault = Err BadField in x ≡ Ok m) =
          rw not at is in
          absurd cc
    ]

fields_slot : (bytes : List ℕ) (m : UpdateMark) → mark_fields bytes ≡ Ok m → m.slot < 2
fields_slot bytes m is =
    let f = fields_are bytes m is in
    subst (λ (n : ℕ). n < 2)
    (sym (slot_of (slice_index bytes 6) (slice_index bytes 5) f.plain f.is)
    ∙ ap (λ (x : UpdateMark). x.slot) f.same)
    f.low

pub mark_slot : (bytes : List ℕ) (m : UpdateMark) → mark_of bytes ≡ Ok m → m.slot < 2
unfolding mark_of
mark_slot bytes m is =
    by_head (head_fault mark_magic (is_version (slice_index bytes 4)) bytes) is
  where
    by_head : (o : Option MarkFault) → sectors.unless o (mark_fields bytes) ≡ Ok m → m.slot < 2
    by_head None is = fields_slot bytes m is
    by_head (Some fault) is = absurd cc

-- ---- flags

flags_taken : (k m : UpdateMark)
    → FlagsFit k
    → (let read : Result UpdateMark MarkFault = Ok k in read ≡ Ok m)
    → FlagsFit m
flags_taken k m fits is = subst FlagsFit (let e : k ≡ m = cc in e) fits

-- the mark of a byte has no flag that its phase doesn't have
flags_of : (slot byte : ℕ) (m : UpdateMark)
    → ok_or (mark_by slot byte) BadField ≡ Ok m
    → FlagsFit m
flags_of slot zero m is = flags_taken _ m (refl, refl) is
flags_of slot (suc zero) m is = flags_taken _ m (refl, refl) is
flags_of slot (suc (suc zero)) m is = flags_taken _ m (refl, refl) is
flags_of slot (suc (suc (suc zero))) m is = flags_taken _ m (refl, refl) is
flags_of slot (suc (suc (suc (suc zero)))) m is = flags_taken _ m (refl, refl) is
flags_of slot (suc (suc (suc (suc (suc zero))))) m is = flags_taken _ m (refl, refl) is
flags_of slot (suc (suc (suc (suc (suc (suc zero)))))) m is = flags_taken _ m (refl, refl) is
flags_of slot (suc (suc (suc (suc (suc (suc (suc zero))))))) m is =
    flags_taken _ m (refl, refl) is
flags_of slot (suc (suc (suc (suc (suc (suc (suc (suc n)))))))) m is = absurd cc

fields_flags : (bytes : List ℕ) (m : UpdateMark) → mark_fields bytes ≡ Ok m → FlagsFit m
fields_flags bytes m is =
    let f = fields_are bytes m is in
    subst FlagsFit f.same (flags_of (slice_index bytes 6) (slice_index bytes 5) f.plain f.is)

-- nor has one that is read
pub mark_flags : (bytes : List ℕ) (m : UpdateMark) → mark_of bytes ≡ Ok m → FlagsFit m
unfolding mark_of
mark_flags bytes m is =
    by_head (head_fault mark_magic (is_version (slice_index bytes 4)) bytes) is
  where
    by_head : (o : Option MarkFault) → sectors.unless o (mark_fields bytes) ≡ Ok m → FlagsFit m
    by_head None is = fields_flags bytes m is
    by_head (Some fault) is = absurd cc

-- with another phase a mark has none that the phase doesn't have
pub rephased_fits : (p : MarkPhase) (m : UpdateMark) → FlagsFit (rephased p m)
rephased_fits p m = (apart (may_stand_apart p) m.apart, plain (is_idle p))
  where
    apart : (b x : Bool) → IsTrue (b || not (b && x))
    apart true true = refl
    apart true false = refl
    apart false x = refl

    plain : (b : Bool) → IsTrue (b || true)
    plain true = refl
    plain false = refl

-- with its own phase a mark that isn't overlaid is itself
pub rephased_again : (m : UpdateMark)
    → FlagsFit m
    → m.overlaid ≡ false
    → rephased m.phase m ≡ m
rephased_again m fits plain =
    (λ i. record m {
      apart = by (may_stand_apart m.phase) m.apart fits.0 i;
      overlaid = sym plain i;
    })
  where
    by : (b x : Bool) → IsTrue (b || not x) → (b && x) ≡ x
    by true x is = refl
    by false false is = refl
    by false true is = absurd cc

off : (b x : Bool) → IsTrue (b || not x) → b ≡ false → x ≡ false
off true x is none = absurd cc
off false false is none = refl
off false true is none = absurd cc

-- in a phase in which no target stands apart, none does
pub not_apart : (m : UpdateMark)
    → FlagsFit m
    → may_stand_apart m.phase ≡ false
    → m.apart ≡ false
not_apart m fits phase = off (may_stand_apart m.phase) m.apart fits.0 phase

-- where there is an update, no slot is overlaid
pub not_overlaid : (m : UpdateMark) → FlagsFit m → is_idle m.phase ≡ false → m.overlaid ≡ false
not_overlaid m fits phase = off (is_idle m.phase) m.overlaid fits.1 phase

-- of a phase of an update it is one with that phase
pub as_phase : (m : UpdateMark) (p : MarkPhase)
    → FlagsFit m
    → is_idle p ≡ false
    → m.phase ≡ p
    → m ≡ rephased p m
as_phase m p fits update is =
    sym (rephased_again m fits (not_overlaid m fits (ap is_idle is ∙ update)))
    ∙ ap (λ (q : MarkPhase). rephased q m) is

-- and of a slot that is known
pub as_mark : (m : UpdateMark) (p : MarkPhase) (slot : ℕ)
    → FlagsFit m
    → is_idle p ≡ false
    → m.phase ≡ p
    → m.slot ≡ slot
    → m ≡ rephased p (resloted slot m)
as_mark m p slot fits update is slot_is =
    as_phase m p fits update is ∙ ap (λ (k : ℕ). rephased p (resloted k m)) slot_is

-- the same without an update and an overlay
pub as_idle : (m : UpdateMark)
    → FlagsFit m
    → m.overlaid ≡ false
    → m.phase ≡ marks.Idle
    → m ≡ rephased marks.Idle m
as_idle m fits plain is =
    sym (rephased_again m fits plain) ∙ ap (λ (q : MarkPhase). rephased q m) is
