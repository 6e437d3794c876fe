-- 10 to 12: rents, limits and records that should stand.
use Rattle.std.proofs.Common.{◌≡◌, ◌∙◌, sym, ap, refl, ℕ, ◌⊎◌, inl, inr, Bool, true, false, Some, None, if◌then◌else◌, ◌||◌, not, nat_le, eqb, is_some}
use Rattle.std.specs.Prelude.{Contains, option_and_then}
use Rattle.std.specs.List.{list_any}
use Rattle.std.proofs.lemmas.Bool.{leb-true, le-leb, or_parts, not-false, not-true, not_from_false, and_parts, and_from, cases_Bool, false≢true, false_from_ne_true, eqb-true, eq-eqb}
use Rattle.list_laws.proofs.Filters.{Contains-filter, filter-contains}
use Rattle.record_history.specs.{declared.records.Kind.Kind, declared.records.Record.Record, Records.as_of, Records.is_withdrawal, Records.is_live, Records.live_records, Records.is_live_as_of}
use Rattle.rent_table.specs.{declared.rows.Unit.Unit as UnitRow, Table.unit_at, Table.rents_on, Table.limits_on}
use Rattle.rent_table.proofs.StandingLemmas.{no_row_sets_rents, no_row_sets_limits}
use Rattle.tenancy_rules.specs.Order.{is_move_in}
use Rattle.office_step.specs.{declared.heading.Heading.Heading, declared.refusal.Refusal.Refusal, Matter.Matter, Matter.certifies, Matter.own, Made.heading_in, Refusals.refused_unless, Against.no_rent_on}
use Rattle.office_step.proofs.Exactly.Numbered.{found_by_number}
use Rattle.office_step.proofs.Exactly.Options.{refused_unless-some, and_then-some, is_some-false, any-some, any-from}
use Rattle.office_step.proofs.Exactly.Named.{certifying, certifying_from}
use Rattle.office_step.specs.plain.Standing.{HasNoRents, NoRentIsPlain, NoLimitsIsPlain, IsThere, NotLiveIsPlain}

pub no_rent_is_plain : NoRentIsPlain
no_rent_is_plain about refusal numbered = (
  λ is. by_basis (certifies about.basis) refl is,
  λ at. (let there = (found_by_number about.known.units at.heading.unit at.unit numbered).1 (at.held, at.numbered) in
      let none = (no_row_sets_rents about.known.rents at.unit.group at.heading.from).1 at.none in
      rw (certifying_from about.basis at.certifies, at.makes, there, none, at.told) refl),
)
  where
    by_basis : (certified : Bool) → certifies about.basis ≡ certified → (if certified then option_and_then (no_rent_on about.known) (heading_in about) else None) ≡ Some refusal →
        HasNoRents about refusal
    by_basis false basis is = absurd (cc)
    by_basis true basis is =
        let makes = and_then-some (no_rent_on about.known) (heading_in about) refusal is in
        let heading : Heading = makes.0 in
        let of = and_then-some (λ (unit : UnitRow). refused_unless (is_some (rents_on about.known.rents unit.group heading.from)) (Refusal.NoRent unit.group heading.from)) (unit_at about.known.units heading.unit) refusal makes.2 in
        let unit : UnitRow = of.0 in
        let has = refused_unless-some (is_some (rents_on about.known.rents unit.group heading.from)) (Refusal.NoRent unit.group heading.from) refusal of.2 in
        let there = (found_by_number about.known.units heading.unit unit numbered).0 of.1 in record {
          heading = heading;
          unit = unit;
          told = has.1;
          makes = makes.1;
          certifies = certifying about.basis basis;
          held = there.0;
          numbered = there.1;
          none = (no_row_sets_rents about.known.rents unit.group heading.from).0 (is_some-false (rents_on about.known.rents unit.group heading.from) has.0);
        }

moves_in : (kind : Kind) → is_move_in kind ≡ true → kind ≡ Kind.MI
moves_in Kind.MI is = refl
moves_in _ is = absurd (false≢true is)

pub no_limits_is_plain : NoLimitsIsPlain
no_limits_is_plain about refusal = (
  λ is. (let makes = and_then-some (λ (heading : Heading). refused_unless (not (is_move_in heading.kind) || is_some (limits_on about.known.limits heading.from)) (Refusal.NoLimits heading.from)) (heading_in about) refusal is in
      let heading : Heading = makes.0 in
      let has = refused_unless-some (not (is_move_in heading.kind) || is_some (limits_on about.known.limits heading.from)) (Refusal.NoLimits heading.from) refusal makes.2 in
      let parts = or_parts (not (is_move_in heading.kind)) (is_some (limits_on about.known.limits heading.from)) has.0 in record {
        heading = heading;
        told = has.1;
        makes = makes.1;
        move_in = moves_in heading.kind (not-false (is_move_in heading.kind) parts.0);
        none = (no_row_sets_limits about.known.limits heading.from).0 (is_some-false (limits_on about.known.limits heading.from) parts.1);
      }),
  λ at. (let none = (no_row_sets_limits about.known.limits at.heading.from).1 at.none in rw (at.makes, at.move_in, none, at.told) refl),
)

-- ---- records that count

withdraws : (kind : Kind) → is_withdrawal kind ≡ true → kind ≡ Kind.WD
withdraws Kind.WD is = refl
withdraws _ is = absurd (false≢true is)

module _ (about : Matter) where
  there : (r : Record) → Contains (as_of about.known.count (own about)) r → IsThere about r
  there r held =
      let has = filter-contains (λ (r : Record). nat_le r.act about.known.count) (own about) r held in
      record { held = has.0; by_now = leb-true r.act about.known.count has.1 }

  is_made : (r : Record) → IsThere about r → Contains (as_of about.known.count (own about)) r
  is_made r is = Contains-filter (λ (r : Record). nat_le r.act about.known.count) (own about) r is.held (le-leb r.act about.known.count is.by_now)

  -- a record that doesn't count is a withdrawal, or is named by another
  why_not : (target : ℕ) → is_live_as_of about.known.count (own about) target ≡ false → (r : Record) → IsThere about r → r.number ≡ target →
      (r.kind ≡ Kind.WD) ⊎ ((other : Record) × IsThere about other × (other.corrects ≡ target))
  why_not target fails r is numbered =
      elim (cases_Bool (is_withdrawal r.kind)) [
        | inl withdrawn ↦ inl (withdraws r.kind withdrawn)
        | inr stays ↦ elim (cases_Bool (list_any (λ (other : Record). eqb other.corrects r.number) (as_of about.known.count (own about)))) [
          | inl named ↦
              let by = any-some (λ (other : Record). eqb other.corrects r.number) (as_of about.known.count (own about)) named in
              inr (by.0, there by.0 by.1, eqb-true by.0.corrects r.number by.2 ∙ numbered)
          | inr unnamed ↦
              let live : is_live (as_of about.known.count (own about)) r ≡ true = and_from (not (is_withdrawal r.kind)) (not (list_any (λ (other : Record). eqb other.corrects r.number) (as_of about.known.count (own about))))
              (not_from_false (is_withdrawal r.kind) stays) (not_from_false (list_any (λ (other : Record). eqb other.corrects r.number) (as_of about.known.count (own about))) unnamed) in
              let counts = Contains-filter (is_live (as_of about.known.count (own about))) (as_of about.known.count (own about)) r (is_made r is) live in
              absurd (false≢true (sym fails ∙ any-from (λ (r : Record). eqb r.number target) (live_records (as_of about.known.count (own about))) r counts (eq-eqb r.number target numbered)))
        ]
      ]

  not_counted : (target : ℕ) → ((r : Record) → IsThere about r → r.number ≡ target → (r.kind ≡ Kind.WD) ⊎ ((other : Record) × IsThere about other × (other.corrects ≡ target))) →
      is_live_as_of about.known.count (own about) target ≡ false
  not_counted target why = false_from_ne_true (is_live_as_of about.known.count (own about) target) (λ counts. contrary counts)
    where
      contrary : is_live_as_of about.known.count (own about) target ≡ true → ⊥
      contrary counts =
          let by = any-some (λ (r : Record). eqb r.number target) (live_records (as_of about.known.count (own about))) counts in
          let r : Record = by.0 in
          let kept = filter-contains (is_live (as_of about.known.count (own about))) (as_of about.known.count (own about)) r by.1 in
          let parts = and_parts (not (is_withdrawal r.kind)) (not (list_any (λ (other : Record). eqb other.corrects r.number) (as_of about.known.count (own about)))) kept.1 in
          let numbered : r.number ≡ target = eqb-true r.number target by.2 in
          elim (why r (there r kept.0) numbered) [
            | inl withdrawn ↦ false≢true (sym (not-true (is_withdrawal r.kind) parts.0) ∙ ap is_withdrawal withdrawn)
            | inr named ↦ false≢true (sym (not-true (list_any (λ (other : Record). eqb other.corrects r.number) (as_of about.known.count (own about))) parts.1)
                ∙ any-from (λ (other : Record). eqb other.corrects r.number) (as_of about.known.count (own about)) named.0 (is_made named.0 named.1) (eq-eqb named.0.corrects r.number (named.2 ∙ sym numbered)))
          ]

pub not_live_is_plain : NotLiveIsPlain
not_live_is_plain about refusal = (
  λ is. (let names = and_then-some (λ (target : ℕ). refused_unless (is_live_as_of about.known.count (own about) target) (Refusal.NotLive target)) about.target refusal is in
      let has = refused_unless-some (is_live_as_of about.known.count (own about) names.0) (Refusal.NotLive names.0) refusal names.2 in
      record { target = names.0; told = has.1; names = names.1; not_counted = why_not about names.0 has.0 }),
  λ at. rw (at.names, not_counted about at.target at.not_counted, at.told) refl,
)
