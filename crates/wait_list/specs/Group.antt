-- The applicants that one scan of the list looks at.
use Rattle.std.specs.Prelude.{not, Bool, List, filter}
use Rattle.wait_list.specs.{declared.applicant.Applicant.Applicant, declared.next.Group.Group, Next.Asked, Next.needs, Next.candidates}

-- the applicant is of the group
abbrev pub is_of : Asked → Group → Applicant → Bool
is_of asked Group.Needing applicant = needs asked applicant
is_of asked Group.NotNeeding applicant = not (needs asked applicant)

-- those of the group who could be admitted
abbrev pub candidates_of : Asked → Group → List Applicant → List Applicant
candidates_of asked group applicants = filter (is_of asked group) (candidates asked applicants)
