-- The packets of a session write over a partition, each whole.
use Rattle.std.proofs.Common.{◌≡◌, ◌⊎◌, ◌∙◌, inl, inr, ℕ, true, false, List, [], ◌∷◌, ◌++◌, Option}
use Rattle.std.proofs.Common.{Some, Result, Ok, Err, refl, sym, ap, subst}
use Rattle.std.specs.Prelude.{Bool, ◌&&◌, All, nat_lt}
use Rattle.std.proofs.lemmas.Bool.{cases_Bool}
use Rattle.std.proofs.lemmas.List.Elements.{All-head, All-tail, All-cons, All-nil}
use Rattle.std.proofs.lemmas.List.{append-nil}
use Rattle.std.proofs.Common.{append_assoc}
use Rattle.vab_model.specs.declared.state.Image.{Image as ImageOfSlot}
use Rattle.vab_model.specs.declared.state.Overlay.{Overlay as OverlayOf}
use Rattle.vab_model.specs.declared.state.Phase.{Phase}
use Rattle.vab_model.specs.declared.state.Phase.TheVariants.{Idle}
use Rattle.vab_model.specs.declared.command.Reply.TheVariants as replies
use Rattle.vab_model.specs.Commands.{Command, Overlay, OverlayWrite}
use Rattle.vab_model.specs.Effects.{Effect, after_of, last_of}
use Rattle.vab_model.specs.Over.{blank_overlay}
use Rattle.vab_model.specs.Plans.{blocks_in}
use Rattle.vab_model.specs.Writes.{BlockWrite, IsWholeWrite, ReadsAsWritten, written_all}
use Rattle.vab_model.proofs.OverLaws.{last_write_is_read}
use Rattle.vab_device.specs.Mounted.{Mounted}
use Rattle.vab_device.specs.Updates.{effect_on, merge_effect}
use Rattle.vab_fbproto.specs.Requests.{Asked, Getvar, Download, Do, MergeAll, BootAndEnd}
use Rattle.vab_fbproto.specs.Requests.{request_of}
use Rattle.vab_fbproto.specs.declared.request.BadCommand.{BadCommand}
use Rattle.vab_exchanges.specs.Session.{Exchange, most_data}
use Rattle.vab_exchanges.specs.Items.{Kept, Item, item_asked, item_of, item_by, behind}
use Rattle.vab_exchanges.specs.Items.{passed, item_behind, kept_after, unless_refused}
use Rattle.vab_exchanges.specs.Items.{item_download, later_of}
use Rattle.vab_session.specs.Responses.{response, machine, turns_between, still, by_effect}
use Rattle.vab_session.proofs.OverlayLaws.{write_makes}
use Rattle.vab_boots.specs.Overlaid.{overlaid_by, IsOverlaidFrom}
use Rattle.vab_boots.specs.Read.{is_write}
use Rattle.vab_boots.specs.Sessions.{asks_writes, AreWriting, told_writes, asked_writes, writes_in}
use Rattle.vab_boots.specs.Sessions.{IsWrittenOver, IsBegunOver}
use Rattle.vab_boots.proofs.Overlaying.{overlaid_behind}
use Rattle.vab_boots.proofs.Reading.{Wrote, same, one_writes, written_on, as_many, all_on, begins}

-- ---- one packet

-- each of these is one or the other
abbrev Either : Mounted → Mounted → List Mounted → Type 0
Either was next ms = All (λ m. (m ≡ was) ⊎ (m ≡ next)) ms

-- An item has written these writes, and each situation is the one before it or the one behind it.
record ItemWrote (k : Kept Mounted) (o : OverlayOf) (ws : List BlockWrite) (i : Item Mounted)
    : Type 0 where
  wrote : Wrote k.now o ws i.last.now
  steps : Either k.now i.last.now i.steps

module _ (k : Kept Mounted) (o : OverlayOf) (over : k.now.state.overlay ≡ Some o) where
  alone : (m : Mounted) → Either k.now m (k.now ∷ [])
  alone m =
      All-cons (λ x. (x ≡ k.now) ⊎ (x ≡ m)) k.now [] (inl refl)
      (All-nil (λ x. (x ≡ k.now) ⊎ (x ≡ m)))

  -- nothing changes
  unchanged : (i : Item Mounted)
      → i.last.now ≡ k.now
      → i.steps ≡ k.now ∷ []
      → ItemWrote k o [] i
  unchanged i last steps = record {
    wrote = subst (Wrote k.now o []) (sym last) (same k.now o over);
    steps = subst (Either k.now i.last.now) (sym steps) (alone i.last.now);
  }

  stays : (refused : Bool) (text : List ℕ)
      → ItemWrote k o [] (item_by k (unless_refused refused (still text)))
  stays true text = unchanged _ refl refl
  stays false text = unchanged _ refl refl

  brings : (size : ℕ) (refused : Bool) (parts : List (List ℕ))
      → ItemWrote k o [] (item_download k size refused parts)
  brings size refused parts = elim (cases_Bool (nat_lt most_data size)) [
    | inl large ↦ rw large (unchanged _ refl refl)
    | inr not ↦ elim (cases_Bool (refused && nat_lt 0 size)) [
      | inl none ↦ rw (not, none) (unchanged _ refl refl)
      | inr some ↦ rw (not, some) (unchanged _ refl refl)
    ]
  ]

  -- what a write makes of the device is nothing, or one device
  makes_one : (staged : Option (List ℕ)) (c : Command)
      → is_write c ≡ true
      → Either k.now (last_of k.now (effect_on k.now staged c).later)
      (effect_on k.now staged c).later
  makes_one staged (OverlayWrite block) is =
      write_makes k.now (λ l. Either k.now (last_of k.now l) l)
      (All-nil (λ x. (x ≡ k.now) ⊎ (x ≡ k.now)))
      (λ w.
      All-cons (λ x. (x ≡ k.now) ⊎ (x ≡ overlaid_by k.now w)) (overlaid_by k.now w) [] (inr refl)
      (All-nil (λ x. (x ≡ k.now) ⊎ (x ≡ overlaid_by k.now w))))
      staged block
  makes_one staged _ is = absurd cc

  does_command : (refused : Bool) (c : Command)
      → is_write c ≡ true
      → ItemWrote k o (told_writes refused k.staged c (effect_on k.now k.staged c))
      (item_by k (unless_refused refused (by_effect c (effect_on k.now k.staged c))))
  does_command refused c is =
      let e : Effect Mounted = effect_on k.now k.staged c in
      elim (cases_Bool (refused && e.wants)) [
        | inl none ↦ rw none (unchanged _ refl refl)
        | inr some ↦ rw some (record {
          wrote = one_writes k.now o over k.staged c is;
          steps =
              All-cons (λ x. (x ≡ k.now) ⊎ (x ≡ last_of k.now e.later)) k.now e.later (inl refl)
              (makes_one k.staged c is);
        })
      ]

  item_writes : (refused : Bool) (parts : List (List ℕ)) (asked : Result Asked BadCommand)
      → asks_writes asked ≡ true
      → ItemWrote k o (asked_writes k refused asked) (item_asked response k refused parts asked)
  item_writes refused parts (Ok (Getvar variable)) is = stays refused _
  item_writes refused parts (Ok (Download size)) is = brings size refused parts
  item_writes refused parts (Ok (Do command)) is = does_command refused command is
  item_writes refused parts (Ok MergeAll) is = absurd cc
  item_writes refused parts (Ok BootAndEnd) is = absurd cc
  item_writes refused parts (Err bad) is = stays refused _

-- ---- nothing is merged before it

none_between : (turns : ℕ) (m : Mounted) → m.state.phase ≡ Idle → turns_between turns m ≡ []
none_between turns m idle =
    ap (λ (phase : Phase). (merge_effect m turns phase).later) idle

passes : (turns : ℕ) (k : Kept Mounted)
    → k.now.state.phase ≡ Idle
    → passed (machine turns) k ≡ k
passes turns k idle =
    ap (λ (l : List Mounted). record { now = last_of k.now l; staged = k.staged })
    (none_between turns k.now idle)

-- an item without situations in front of it
behind_none : (s : Mounted) (front : List Mounted) (i : Item Mounted) (next : Mounted)
    → front ≡ []
    → Either s next i.steps
    → Either s next (behind s front i).steps
behind_none s front i next none each =
    subst (λ (f : List Mounted). Either s next (s ∷ (f ++ later_of i.steps))) (sym none)
    (by_steps i.steps each)
  where
    by_steps : (l : List Mounted) → Either s next l → Either s next (s ∷ later_of l)
    by_steps [] each =
        All-cons (λ x. (x ≡ s) ⊎ (x ≡ next)) s [] (inl refl) (All-nil (λ x. (x ≡ s) ⊎ (x ≡ next)))
    by_steps (x ∷ xs) each =
        All-cons (λ y. (y ≡ s) ⊎ (y ≡ next)) s xs (inl refl)
        (All-tail (λ y. (y ≡ s) ⊎ (y ≡ next)) x xs each)

module _ (turns : ℕ) (k : Kept Mounted) (o : OverlayOf) (s : Exchange)
    (idle : k.now.state.phase ≡ Idle)
    (over : k.now.state.overlay ≡ Some o)
    (is : asks_writes (request_of s.command) ≡ true) where
  abbrev writes : List BlockWrite
  writes = asked_writes (passed (machine turns) k) s.refused (request_of s.command)

  heard : ItemWrote k o writes (item_of response (passed (machine turns) k) s)
  unfolding item_of
  heard =
      subst
      (λ (x : Kept Mounted).
      ItemWrote k o (asked_writes x s.refused (request_of s.command))
      (item_asked response x s.refused s.parts (request_of s.command)))
      (sym (passes turns k idle))
      (item_writes k o over s.refused s.parts (request_of s.command) is)

  exchange_writes : Wrote k.now o writes (item_behind (machine turns) k s).last.now
  exchange_writes = heard.wrote

  exchange_steps : Either k.now (item_behind (machine turns) k s).last.now
      (item_behind (machine turns) k s).steps
  exchange_steps =
      behind_none k.now (turns_between turns k.now)
      (item_of response (passed (machine turns) k) s)
      (item_of response (passed (machine turns) k) s).last.now
      (none_between turns k.now idle) heard.steps

-- ---- behind some of them

abbrev over_of : ImageOfSlot → (store : ℕ) → List BlockWrite → OverlayOf
over_of image store writes = written_all writes (blank_overlay image store)

-- one more is written behind the earlier ones
more_written : (image : ImageOfSlot) (before ws : List BlockWrite) (m next : Mounted)
    (is : IsWrittenOver image before m)
    → Wrote m (over_of image is.store before) ws next
    → IsWrittenOver image (before ++ ws) next
more_written image before ws m next is wrote =
    let many =
    as_many before (blocks_in image.bytes) (blank_overlay image is.store) refl is.whole in
    record {
      idle = ap (λ (x : Mounted). x.state.phase) wrote.is ∙ is.idle;
      store = is.store;
      whole =
          all_on (IsWholeWrite (blocks_in image.bytes)) before ws is.whole
          (subst (λ (n : ℕ). All (IsWholeWrite n) ws) many wrote.whole);
      is =
          ap (λ (x : Mounted). x.state.overlay) wrote.is
          ∙ ap Some (sym (written_on before ws (blank_overlay image is.store)));
    }

pub sessions_write : (turns : ℕ) (k : Kept Mounted) (image : ImageOfSlot)
    (before : List BlockWrite) (exchanges : List Exchange)
    → IsWrittenOver image before k.now
    → AreWriting exchanges
    → IsWrittenOver image (before ++ writes_in turns k exchanges)
    (kept_after (machine turns) k exchanges).now
    × IsOverlaidFrom k.now (kept_after (machine turns) k exchanges).now
sessions_write turns k image before [] is are = (
  subst (λ (ws : List BlockWrite). IsWrittenOver image ws k.now) (sym (append-nil before)) is,
  record { overlay = k.now.state.overlay; is = refl },
)
sessions_write turns k image before (s ∷ ss) is are =
    let P = λ (x : Exchange). asks_writes (request_of x.command) ≡ true in
    let ws : List BlockWrite =
    asked_writes (passed (machine turns) k) s.refused (request_of s.command) in
    let next : Kept Mounted = (item_behind (machine turns) k s).last in
    let wrote = exchange_writes turns k (over_of image is.store before) s is.idle is.is
    (All-head P s ss are) in
    let now = more_written image before ws k.now next.now is wrote in
    let rest = sessions_write turns next image (before ++ ws) ss now (All-tail P s ss are) in (
      subst
          (λ (l : List BlockWrite).
          IsWrittenOver image l (kept_after (machine turns) next ss).now)
          (append_assoc before ws (writes_in turns next ss)) rest.0,
      overlaid_behind k.now next.now (kept_after (machine turns) next ss).now
          (record { overlay = _; is = wrote.is }) rest.1,
    )

pub sessions_write_whole : (turns : ℕ) (k : Kept Mounted) (image : ImageOfSlot)
    (before : List BlockWrite) (s : Exchange)
    → IsWrittenOver image before k.now
    → asks_writes (request_of s.command) ≡ true
    → Either k.now (item_behind (machine turns) k s).last.now
    (item_behind (machine turns) k s).steps
sessions_write_whole turns k image before s is asks =
    exchange_steps turns k (over_of image is.store before) s is.idle is.is asks

-- ---- its begin, and what is read

pub overlays_begin : (m : Mounted) (staged : Option (List ℕ)) (name : List ℕ) (size : ℕ)
    → (effect_on m staged (Overlay name size)).reply ≡ replies.Done
    → IsBegunOver m name (after_of m (effect_on m staged (Overlay name size)))
overlays_begin m staged name size done =
    let b = begins m staged name size done in
    record {
      image = b.image;
      named = b.named;
      written = record {
        idle = ap (λ (n : Mounted). n.state.phase) b.is ∙ b.idle;
        store = b.store;
        whole = All-nil (IsWholeWrite (blocks_in b.image.bytes));
        is = ap (λ (n : Mounted). n.state.overlay) b.is;
      };
    }

pub written_is_read : (image : ImageOfSlot) (writes : List BlockWrite) (m : Mounted)
    → IsWrittenOver image writes m
    → (o : OverlayOf) × (m.state.overlay ≡ Some o) × ReadsAsWritten image writes o
written_is_read image writes m is =
    (over_of image is.store writes, is.is, last_write_is_read image is.store writes is.whole)
