use Rattle.column_mapping.proofs.places.resolve.Goals as goal

pub returns-in-Plain-clause-places : goal.returns-in-Plain-clause-places
returns-in-Plain-clause-places c = rw (c.in-Plain.is, ← c.as_slice-columns.ensures, ← c.as_slice-leaves.ensures) c.by_name.ensures.places

pub returns-in-ByName-clause-places : goal.returns-in-ByName-clause-places
returns-in-ByName-clause-places c = rw (c.in-ByName.is, ← c.as_slice-columns.ensures, ← c.as_slice-leaves.ensures) c.by_name-in-ByName.ensures.places
