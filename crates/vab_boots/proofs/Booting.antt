-- A slot that works is one that boots.
use Rattle.std.proofs.Common.{◌≡◌, ◌∙◌, ℕ, zero, suc, ◌<◌, true, false, not, ◌&&◌, ◌||◌}
use Rattle.std.proofs.Common.{eqb}
use Rattle.std.proofs.Common.{List, Option, Some, None, refl, sym, ap, subst, arith}
use Rattle.std.proofs.lemmas.Bool.{and_parts, and_from, or_left, not-true, eqb-false, lt-ltb}
use Rattle.std.specs.Prelude.{is_some, nat_lt, slice_index_or}
use Rattle.vab_disk.specs.Disk.{Image}
use Rattle.vab_bootctl.specs.declared.slots.Info.{Info}
use Rattle.vab_bootctl.specs.Boot.{info_at, IsBootable, chosen_of}
use Rattle.vab_bootctl.proofs.BootLaws.{chosen_is, chosen_none, booted_current}
use Rattle.vab_layout.specs.Slots.{other_slot}
use Rattle.vab_model.specs.declared.state.Image.{Image as ImageOfSlot}
use Rattle.vab_model.specs.declared.state.State.{State}
use Rattle.vab_model.specs.declared.command.Reply.TheVariants as replies
use Rattle.vab_model.specs.State.{images_at, has_images}
use Rattle.vab_model.specs.Machine.{machine_effect}
use Rattle.vab_device.specs.Mounted.{Mounted}
use Rattle.vab_device.specs.Phases.{is_good}
use Rattle.vab_device.specs.Reading.{IsIn}
use Rattle.vab_session.specs.Alone.{IsAlone, BootsTo}
use Rattle.vab_session.proofs.AloneLaws.{alone_boots}
use Rattle.vab_boots.specs.Boots.{worked_slot, Works, Boots, is_ready}
use Rattle.vab_boots.proofs.Facts.{Facts, facts_of}

pub some_of : {A : Type 0} (o : Option A) → is_some o ≡ true → (x : A) × (o ≡ Some x)
some_of (Some x) is = (x, refl)
some_of None is = absurd cc

pub none_of : {A : Type 0} (o : Option A) → is_some o ≡ false → o ≡ None
none_of (Some x) is = absurd cc
none_of None is = refl

-- ---- a slot that works

good_parts : (i : Info)
    → is_good i ≡ true
    → (0 < i.priority) × (i.successful ≡ true)
good_parts i good =
    let parts = and_parts (not (eqb i.priority 0)) i.successful good in
    let apart = eqb-false i.priority 0 (not-true (eqb i.priority 0) parts.0) in
    (omega (arith, apart), parts.1)

works_of : (s : State) → Facts s → Works s (worked_slot s)
works_of s facts =
    let some = some_of (images_at s facts.slot) facts.has_own in
    let good = good_parts (info_at s.control facts.slot) facts.good in
    subst (λ (n : ℕ). Works s n) (sym facts.worked) (record {
      below = facts.below;
      images = some.0;
      has = some.1;
      priority = good.0;
      successful = good.1;
    })

-- ---- a slot that boots

-- which slots have images, one by one
listed : (s : State) (slot : ℕ)
    → slot < 2
    → slice_index_or (has_images s) slot false ≡ is_some (images_at s slot)
listed s zero lt = refl
listed s (suc zero) lt = refl
listed s (suc (suc n)) lt = absurd (omega (arith, lt))

bootable : (s : State) (slot : ℕ) → Works s slot → IsBootable s.control (has_images s) slot
bootable s slot works =
    let i : Info = info_at s.control slot in
    let has : slice_index_or (has_images s) slot false ≡ true =
    listed s slot works.below ∙ ap is_some works.has in (
      works.below,
      and_from
          (slice_index_or (has_images s) slot false && nat_lt 0 i.priority)
          (i.successful || nat_lt 0 i.tries)
          (and_from (slice_index_or (has_images s) slot false) (nat_lt 0 i.priority) has
          (lt-ltb 0 i.priority works.priority))
          (or_left i.successful (nat_lt 0 i.tries) works.successful),
    )

-- what is chosen has images
chosen_boots : (m : Mounted) (slot : ℕ)
    → chosen_of m.state.control (has_images m.state) ≡ Some slot
    → Boots m
unfolding machine_effect
chosen_boots m slot is =
    let s : State = m.state in
    let i : Info = info_at s.control slot in
    let chosen = chosen_is s.control (has_images s) slot is in
    let there = (and_parts
    (slice_index_or (has_images s) slot false && nat_lt 0 i.priority)
    (i.successful || nat_lt 0 i.tries)
    chosen.bootable.1).0 in
    let has = (and_parts
    (slice_index_or (has_images s) slot false)
    (nat_lt 0 i.priority)
    there).0 in
    let some = some_of (images_at s slot) (sym (listed s slot chosen.bootable.0) ∙ has) in
    record {
      slot = slot;
      chosen = chosen;
      images = some.0;
      has = some.1;
      boots = ap (λ (n : ℕ). replies.Booted n) (booted_current s.control (has_images s) slot is);
    }

boots_by : (m : Mounted) (slot : ℕ) (o : Option ℕ)
    → Works m.state slot
    → chosen_of m.state.control (has_images m.state) ≡ o
    → Boots m
boots_by m slot None works is =
    absurd (chosen_none m.state.control (has_images m.state) is slot (bootable m.state slot works))
boots_by m slot (Some n) works is = chosen_boots m n is

pub works : (size : ℕ) (image : Image) (m : Mounted)
    → IsIn size m image
    → Works m.state (worked_slot m.state)
works size image m is = works_of m.state (facts_of size image m is)

pub boots : (size : ℕ) (image : Image) (m : Mounted) → IsIn size m image → Boots m
boots size image m is =
    boots_by m (worked_slot m.state)
    (chosen_of m.state.control (has_images m.state))
    (works size image m is)
    refl

-- ---- where no update is ready

alone_of : (m : Mounted)
    → Facts m.state
    → is_ready m.state.phase ≡ false
    → (images : List ImageOfSlot) × IsAlone (worked_slot m.state) images m
alone_of m facts unready =
    let some = some_of (images_at m.state facts.slot) facts.has_own in
    subst (λ (n : ℕ). (images : List ImageOfSlot) × IsAlone n images m) (sym facts.worked) (
      some.0,
      record {
        below = facts.below;
        current = facts.current unready;
        has = some.1;
        other = none_of (images_at m.state (other_slot facts.slot)) (facts.alone unready);
        unready = facts.unready unready;
      },
    )

pub alone : (size : ℕ) (image : Image) (m : Mounted)
    → IsIn size m image
    → is_ready m.state.phase ≡ false
    → (images : List ImageOfSlot)
    × IsAlone (worked_slot m.state) images m
    × BootsTo (worked_slot m.state) m
alone size image m is unready =
    let stands = alone_of m (facts_of size image m is) unready in
    (stands.0, stands.1, alone_boots (worked_slot m.state) stands.0 m stands.1)
