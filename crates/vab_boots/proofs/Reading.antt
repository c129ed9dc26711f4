-- What the begin of an overlay and the writes behind it make of a device is read as it was written.
use Rattle.std.proofs.Common.{◌≡◌, ◌∙◌, ℕ, ◌+◌, true, false, List, [], ◌∷◌, ◌++◌, length}
use Rattle.std.proofs.Common.{Option, Some, None, Result, Ok, Err, refl, sym, ap, subst, arith}
use Rattle.std.specs.Prelude.{Bool, All, ◌==◌, nat_lt, nat_le, not}
use Rattle.vab_model.specs.Physical.{is_physical}
use Rattle.std.proofs.lemmas.Bool.{eqb-true, ltb-true}
use Rattle.std.proofs.lemmas.List.Elements.{All-head, All-tail, All-cons, All-nil}
use Rattle.vab_names.specs.Names.{is_full, base_of}
use Rattle.vab_space.specs.Space.{need_of}
use Rattle.vab_layout.specs.declared.layout.Layout.{Layout}
use Rattle.vab_builder.specs.declared.fault.EditFault.{EditFault}
use Rattle.vab_model.specs.declared.state.Image.{Image as ImageOfSlot}
use Rattle.vab_model.specs.declared.state.Overlay.{Overlay as OverlayOf}
use Rattle.vab_model.specs.declared.state.Phase.{Phase}
use Rattle.vab_model.specs.declared.state.Phase.TheVariants.{Idle, Installing, Staged, Merging}
use Rattle.vab_model.specs.declared.state.State.{State}
use Rattle.vab_model.specs.declared.command.Refusal.{Refusal}
use Rattle.vab_model.specs.declared.command.Refusal.TheVariants as refusals
use Rattle.vab_model.specs.declared.command.Reply.TheVariants as replies
use Rattle.vab_model.specs.Commands.{Command, Overlay, OverlayWrite}
use Rattle.vab_model.specs.Effects.{Effect, effect_map, after_of, last_of, if_plain}
use Rattle.vab_model.specs.Machine.{machine_effect}
use Rattle.vab_model.specs.Over.{written_over, blank_overlay}
use Rattle.vab_model.specs.Overlay.{unless, write_staged, write_row, overlay_image}
use Rattle.vab_model.specs.Overlay.{store_of_size, used_over, is_store_size}
use Rattle.vab_model.specs.Plans.{blocks_in, images_of}
use Rattle.vab_model.specs.State.{image_named}
use Rattle.vab_model.specs.Writes.{BlockWrite, IsWholeWrite, written_all}
use Rattle.vab_model.proofs.OverLaws.{put_long, last_write_is_read}
use Rattle.vab_device.specs.Mounted.{Mounted, in_state}
use Rattle.vab_device.specs.Updates.{effect_on, over_effect, over_table, overlay_begun, layout_at}
use Rattle.vab_boots.specs.Overlaid.{Asked, after_all, overlaid_by}
use Rattle.vab_boots.specs.Read.{is_write, AreWrites, write_of, if_done, writes_done}
use Rattle.vab_boots.specs.Read.{WritesAreReadOver}
use Rattle.vab_boots.proofs.Begins.{refused_not}

-- ---- one write

-- what is written where it is done
abbrev done_of : (block : ℕ) → List ℕ → Effect State → List BlockWrite
done_of block bytes e = if_done e.reply (record { block = block; bytes = bytes } ∷ [])

-- These writes are whole, and the device has them behind its overlay's.
pub record Wrote (m : Mounted) (o : OverlayOf) (ws : List BlockWrite) (next : Mounted) : Type 0
  where
    pub whole : All (IsWholeWrite (blocks_in o.bytes)) ws
    pub is : next ≡ overlaid_by m (Some (written_all ws o))

module _ (m : Mounted) (o : OverlayOf) (over : m.state.overlay ≡ Some o) where
  abbrev Whole : BlockWrite → Type 0
  Whole = IsWholeWrite (blocks_in o.bytes)

  -- nothing is written
  pub same : Wrote m o [] m
  same = record {
    whole = All-nil Whole;
    is = ap (overlaid_by m) over;
  }

  abbrev Writes : (block : ℕ) → List ℕ → Effect State → Type 0
  Writes block bytes e =
      Wrote m o (done_of block bytes e) (last_of m (effect_map (in_state m) e).later)

  writes_unless : (block : ℕ) (bytes : List ℕ) (b : Bool) (r : Refusal) (e : Effect State)
      → (b ≡ true → Writes block bytes e)
      → Writes block bytes (unless b r e)
  writes_unless block bytes true r e is = is refl
  writes_unless block bytes false r e is = same

  by_staged : (block : ℕ) (bytes : List ℕ)
      → Writes block bytes (write_staged m.state o block (Some bytes))
  by_staged block bytes =
      let need : ℕ = need_of (length o.blocks + 1) in
      writes_unless block bytes (length bytes == 4096) (refusals.BadLength (length bytes)) _
      (λ long.
      writes_unless block bytes (nat_lt block (blocks_in o.bytes))
      (refusals.BadBlock block (blocks_in o.bytes)) _
      (λ low.
      writes_unless block bytes (nat_le need o.store) (refusals.StoreFull need o.store) _
      (λ room. record {
        whole =
            All-cons Whole (record { block = block; bytes = bytes }) []
            (record {
              low = ltb-true block (blocks_in o.bytes) low;
              long = eqb-true (length bytes) 4096 long;
            })
            (All-nil Whole);
        is = refl;
      })))

  by_overlay : (block : ℕ) (staged : Option (List ℕ))
      → Wrote m o
      (if_done (write_row m.state staged block (Some o)).reply
      (write_of staged (OverlayWrite block)))
      (last_of m (effect_map (in_state m) (write_row m.state staged block (Some o))).later)
  by_overlay block None = same
  by_overlay block (Some bytes) = by_staged block bytes

  -- the command that is a write
  pub one_writes : (staged : Option (List ℕ)) (c : Command)
      → is_write c ≡ true
      → Wrote m o
      (if_done (effect_on m staged c).reply (write_of staged c))
      (after_of m (effect_on m staged c))
  unfolding machine_effect
  one_writes staged (OverlayWrite block) is =
      subst
      (λ (x : Option OverlayOf).
      Wrote m o
      (if_done (write_row m.state staged block x).reply (write_of staged (OverlayWrite block)))
      (last_of m (effect_map (in_state m) (write_row m.state staged block x)).later))
      (sym over) (by_overlay block staged)
  one_writes staged _ is = absurd cc

-- ---- a list of them

pub written_on : (ws more : List BlockWrite) (o : OverlayOf)
    → written_all (ws ++ more) o ≡ written_all more (written_all ws o)
written_on [] more o = refl
written_on (w ∷ ws) more o = written_on ws more (written_over w.block w.bytes o)

-- as many blocks are behind them
pub as_many : (ws : List BlockWrite) (blocks : ℕ) (o : OverlayOf)
    → blocks_in o.bytes ≡ blocks
    → All (IsWholeWrite blocks) ws
    → blocks_in (written_all ws o).bytes ≡ blocks
as_many [] blocks o is all = is
as_many (w ∷ ws) blocks o is all =
    let first : IsWholeWrite (blocks_in o.bytes) w =
    subst (λ (n : ℕ). IsWholeWrite n w) (sym is) (All-head (IsWholeWrite blocks) w ws all) in
    let long = put_long o.bytes w.block w.bytes first.long first.low in
    as_many ws blocks (written_over w.block w.bytes o) (omega (arith, long, is))
    (All-tail (IsWholeWrite blocks) w ws all)

pub all_on : (P : BlockWrite → Type 0) (ws more : List BlockWrite)
    → All P ws
    → All P more
    → All P (ws ++ more)
all_on P [] more all rest = rest
all_on P (w ∷ ws) more all rest =
    All-cons P w (ws ++ more) (All-head P w ws all) (all_on P ws more (All-tail P w ws all) rest)

all_write : (m : Mounted) (o : OverlayOf) (asked : List Asked)
    → m.state.overlay ≡ Some o
    → AreWrites asked
    → Wrote m o (writes_done m asked) (after_all m asked)
all_write m o [] over are = same m o over
all_write m o (a ∷ rest) over are =
    let is_one = λ (x : Asked). is_write x.command ≡ true in
    let next : Mounted = after_of m (effect_on m a.staged a.command) in
    let ws : List BlockWrite =
    if_done (effect_on m a.staged a.command).reply (write_of a.staged a.command) in
    let first = one_writes m o over a.staged a.command (All-head is_one a rest are) in
    let then : OverlayOf = written_all ws o in
    let now : next.state.overlay ≡ Some then = ap (λ (n : Mounted). n.state.overlay) first.is in
    let later = all_write next then rest now (All-tail is_one a rest are) in
    let many = as_many ws (blocks_in o.bytes) o refl first.whole in
    record {
      whole =
          all_on (IsWholeWrite (blocks_in o.bytes)) ws (writes_done next rest) first.whole
          (subst (λ (n : ℕ). All (IsWholeWrite n) (writes_done next rest)) many later.whole);
      is =
          later.is
          ∙ ap
          (λ (n : Mounted). overlaid_by n (Some (written_all (writes_done next rest) then)))
          first.is
          ∙ ap (λ (x : OverlayOf). overlaid_by m (Some x))
          (sym (written_on ws (writes_done next rest) o));
    }

-- ---- behind its begin

-- It is overlaid over the image of this name, and nothing is written yet.
pub record IsBegun (m : Mounted) (name : List ℕ) (next : Mounted) : Type 0 where
  pub idle : m.state.phase ≡ Idle
  pub image : ImageOfSlot
  pub store : ℕ
  pub named : image_named (base_of name) (images_of m.state m.state.control.current) ≡ Some image
  pub is : next ≡ overlaid_by m (Some (blank_overlay image store))

module _ (m : Mounted) (name : List ℕ) where
  abbrev slot : ℕ
  slot = m.state.control.current

  abbrev found : Option ImageOfSlot
  found = image_named (base_of name) (images_of m.state slot)

  abbrev Begins : Effect Mounted → Type 0
  Begins e = e.reply ≡ replies.Done → IsBegun m name (last_of m e.later)

  begins_unless : (b : Bool) (r : Refusal) (e : Effect Mounted) → Begins e → Begins (unless b r e)
  begins_unless true r e is = is
  begins_unless false r e is = refused_not r

  by_text : (image : ImageOfSlot) (store : ℕ) (r : Result Layout EditFault)
      → m.state.phase ≡ Idle
      → found ≡ Some image
      → Begins (over_effect m image store r)
  by_text image store (Ok l) idle named = λ done. record {
    idle = idle;
    image = image;
    store = store;
    named = named;
    is = refl;
  }
  by_text image store (Err fault) idle named = refused_not _

  by_table : (image : ImageOfSlot) (store : ℕ) (l : Option Layout)
      → m.state.phase ≡ Idle
      → found ≡ Some image
      → Begins (over_table m name slot l image store)
  by_table image store None idle named = refused_not refusals.NoImages
  by_table image store (Some l) idle named = by_text image store _ idle named

  by_image : (size : ℕ) (i : Option ImageOfSlot)
      → m.state.phase ≡ Idle
      → found ≡ i
      → Begins
      (overlay_image m.state.cap (images_of m.state slot) size
      (over_table m name slot (layout_at m.places slot)) i)
  by_image size None idle named = refused_not refusals.Unknown
  by_image size (Some image) idle named =
      let store : ℕ = store_of_size (blocks_in image.bytes) size in
      let used : ℕ = used_over (images_of m.state slot) store in
      begins_unless (nat_le used m.state.cap) (refusals.NoRoom used m.state.cap) _
      (by_table image store (layout_at m.places slot) idle named)

  by_phase : (size : ℕ) (phase : Phase)
      → m.state.phase ≡ phase
      → Begins (overlay_begun m name size phase)
  by_phase size Idle idle =
      begins_unless (is_full slot name) refusals.BadName _
      (begins_unless (is_store_size size) refusals.BadSize _
      (begins_unless (not (is_physical (base_of name) m.state.physical)) refusals.Physical _
      (by_image size found idle refl)))
  by_phase size (Installing source plan) other = refused_not refusals.NotIdle
  by_phase size (Staged source left) other = refused_not refusals.NotIdle
  by_phase size (Merging target left) other = refused_not refusals.NotIdle

  by_plain : (size : ℕ) (o : Option OverlayOf)
      → Begins (if_plain o (overlay_begun m name size m.state.phase))
  by_plain size None = by_phase size m.state.phase refl
  by_plain size (Some o) = refused_not refusals.NotIdle

pub begins : (m : Mounted) (staged : Option (List ℕ)) (name : List ℕ) (size : ℕ)
    → (effect_on m staged (Overlay name size)).reply ≡ replies.Done
    → IsBegun m name (after_of m (effect_on m staged (Overlay name size)))
begins m staged name size = by_plain m name size m.state.overlay

pub writes_are_read : (m : Mounted) (staged : Option (List ℕ)) (name : List ℕ) (size : ℕ)
    (asked : List Asked)
    → (effect_on m staged (Overlay name size)).reply ≡ replies.Done
    → AreWrites asked
    → WritesAreReadOver m name (after_of m (effect_on m staged (Overlay name size))) asked
writes_are_read m staged name size asked done are =
    let begun : Mounted = after_of m (effect_on m staged (Overlay name size)) in
    let b = begins m staged name size done in
    let blank : OverlayOf = blank_overlay b.image b.store in
    let over : begun.state.overlay ≡ Some blank =
    ap (λ (n : Mounted). n.state.overlay) b.is in
    let w = all_write begun blank asked over are in
    record {
      image = b.image;
      named = b.named;
      reads = record {
        overlay = written_all (writes_done begun asked) blank;
        is =
            w.is
            ∙ ap
            (λ (n : Mounted). overlaid_by n (Some (written_all (writes_done begun asked) blank)))
            b.is;
        reads = last_write_is_read b.image b.store (writes_done begun asked) w.whole;
      };
    }
