pub mod PackingLaws
