-- The lines that the page of `check` has.
use Rattle.std.proofs.Common.{◌≡◌, ◌∙◌, ℕ, List, [], ◌++◌, refl, sym, ap, subst}
use Rattle.std.specs.Prelude.{Option, Some, None}
use Rattle.std.proofs.lemmas.List.{append-nil, append_assoc}
use Rattle.vab_device.specs.declared.fault.StartFault.{StartFault}
use Rattle.vab_survey.specs.declared.finding.Finding.{Finding}
use Rattle.vab_survey.specs.declared.finding.Finding.TheVariants.{Fine, Wrong, Unread}
use Rattle.vab_survey.specs.declared.survey.Details.{Details}
use Rattle.vab_survey.specs.declared.survey.Survey.{Survey}
use Rattle.vab_look.specs.declared.place.Place.{Place}
use Rattle.vab_look.specs.declared.place.Place.TheVariants as places
use Rattle.vab_look.specs.declared.form.Form.{Form}
use Rattle.vab_look.specs.CheckText.{check_text, front_lines, back_lines, part_line, parts_read}
use Rattle.vab_look.specs.CheckText.{geometry_copies, table_copies, opening_writes, place_of}
use Rattle.vab_look.specs.CheckText.{words_line, shown, finding_words, Has}
use Rattle.vab_look.specs.CheckText.{fault_line, fine_line}

-- ---- pieces of a text

has_here : (l : List ℕ) → Has l l
has_here l = ([], [], sym (append-nil l))

has_left : (a b l : List ℕ) → Has a l → Has (a ++ b) l
has_left a b l h = (
  h.0,
  h.1 ++ b,
  ap (λ (x : List ℕ). x ++ b) h.2
      ∙ append_assoc h.0 (l ++ h.1) b
      ∙ ap (λ (x : List ℕ). h.0 ++ x) (append_assoc l h.1 b),
)

has_right : (a b l : List ℕ) → Has b l → Has (a ++ b) l
has_right a b l h =
    (a ++ h.0, h.1, ap (λ (x : List ℕ). a ++ x) h.2 ∙ sym (append_assoc a h.0 (l ++ h.1)))

-- one of six
module _ (a b c d e f : List ℕ) where
  one : Has (a ++ b ++ c ++ d ++ e ++ f) a
  one =
      has_left (a ++ b ++ c ++ d ++ e) f a
      (has_left (a ++ b ++ c ++ d) e a
      (has_left (a ++ b ++ c) d a (has_left (a ++ b) c a (has_left a b a (has_here a)))))

  two : Has (a ++ b ++ c ++ d ++ e ++ f) b
  two =
      has_left (a ++ b ++ c ++ d ++ e) f b
      (has_left (a ++ b ++ c ++ d) e b
      (has_left (a ++ b ++ c) d b (has_left (a ++ b) c b (has_right a b b (has_here b)))))

  three : Has (a ++ b ++ c ++ d ++ e ++ f) c
  three =
      has_left (a ++ b ++ c ++ d ++ e) f c
      (has_left (a ++ b ++ c ++ d) e c
      (has_left (a ++ b ++ c) d c (has_right (a ++ b) c c (has_here c))))

  four : Has (a ++ b ++ c ++ d ++ e ++ f) d
  four =
      has_left (a ++ b ++ c ++ d ++ e) f d
      (has_left (a ++ b ++ c ++ d) e d (has_right (a ++ b ++ c) d d (has_here d)))

  five : Has (a ++ b ++ c ++ d ++ e ++ f) e
  five =
      has_left (a ++ b ++ c ++ d ++ e) f e (has_right (a ++ b ++ c ++ d) e e (has_here e))

  last : Has (a ++ b ++ c ++ d ++ e ++ f) f
  last = has_right (a ++ b ++ c ++ d ++ e) f f (has_here f)

-- ---- the line of a part

abbrev own_at : Place → Option Details → Finding
own_at places.Size x = Fine
own_at places.Mark x = (parts_read x).mark
own_at places.Statuses x = (parts_read x).statuses
own_at places.Control x = (parts_read x).control
own_at places.Geometry x = (parts_read x).geometry
own_at places.Tables x = (parts_read x).tables
own_at places.Partitions x = (parts_read x).partitions
own_at places.Stores x = (parts_read x).stores
own_at places.States x = Unread

module _ (form : Form) (first : Option StartFault) (x : Option Details) where
  abbrev at : Place → List ℕ
  at p = part_line form p first (own_at p x)

  in_front : (l : List ℕ) → Has (front_lines form first x) l
      → Has (front_lines form first x ++ back_lines form first x) l
  in_front l h = has_left (front_lines form first x) (back_lines form first x) l h

  in_back : (l : List ℕ) → Has (back_lines form first x) l
      → Has (front_lines form first x ++ back_lines form first x) l
  in_back l h = has_right (front_lines form first x) (back_lines form first x) l h

  has_part : (p : Place) → Has (front_lines form first x ++ back_lines form first x) (at p)
  has_part places.Size =
      in_front (at places.Size)
      (one (at places.Size) (at places.Mark) (at places.Statuses) (at places.Control)
      (geometry_copies form x) (at places.Geometry))
  has_part places.Mark =
      in_front (at places.Mark)
      (two (at places.Size) (at places.Mark) (at places.Statuses) (at places.Control)
      (geometry_copies form x) (at places.Geometry))
  has_part places.Statuses =
      in_front (at places.Statuses)
      (three (at places.Size) (at places.Mark) (at places.Statuses) (at places.Control)
      (geometry_copies form x) (at places.Geometry))
  has_part places.Control =
      in_front (at places.Control)
      (four (at places.Size) (at places.Mark) (at places.Statuses) (at places.Control)
      (geometry_copies form x) (at places.Geometry))
  has_part places.Geometry =
      in_front (at places.Geometry)
      (last (at places.Size) (at places.Mark) (at places.Statuses) (at places.Control)
      (geometry_copies form x) (at places.Geometry))
  has_part places.Tables =
      in_back (at places.Tables)
      (two (table_copies form x) (at places.Tables) (at places.Partitions) (at places.Stores)
      (at places.States) (opening_writes form first x))
  has_part places.Partitions =
      in_back (at places.Partitions)
      (three (table_copies form x) (at places.Tables) (at places.Partitions) (at places.Stores)
      (at places.States) (opening_writes form first x))
  has_part places.Stores =
      in_back (at places.Stores)
      (four (table_copies form x) (at places.Tables) (at places.Partitions) (at places.Stores)
      (at places.States) (opening_writes form first x))
  has_part places.States =
      in_back (at places.States)
      (five (table_copies form x) (at places.Tables) (at places.Partitions) (at places.Stores)
      (at places.States) (opening_writes form first x))

-- ---- the first fault

-- at its own part a fault is told
told_at : (p : Place) (f : StartFault) (own : Finding)
    → place_of f ≡ p
    → shown p (Some f) own ≡ Wrong f
told_at places.Size f own is = rw is refl
told_at places.Mark f own is = rw is refl
told_at places.Statuses f own is = rw is refl
told_at places.Control f own is = rw is refl
told_at places.Geometry f own is = rw is refl
told_at places.Tables f own is = rw is refl
told_at places.Partitions f own is = rw is refl
told_at places.Stores f own is = rw is refl
told_at places.States f own is = rw is refl

pub has_fault : (form : Form) (s : Survey) (f : StartFault)
    → s.first ≡ Some f
    → Has (check_text form s) (fault_line form f)
has_fault form s f is =
    subst (Has (check_text form s))
    (ap
    (λ (k : Option StartFault). part_line form (place_of f) k (own_at (place_of f) s.details)) is
    ∙ ap (λ (k : Finding). words_line form (place_of f) (finding_words k))
    (told_at (place_of f) f (own_at (place_of f) s.details) refl))
    (has_part form s.first s.details (place_of f))

pub has_fine : (form : Form) (s : Survey) (p : Place)
    → s.first ≡ None
    → Has (check_text form s) (fine_line form p)
has_fine form s p is =
    subst (Has (check_text form s))
    (ap (λ (k : Option StartFault). part_line form p k (own_at p s.details)) is)
    (has_part form s.first s.details p)
