-- Second accounts of words, paths and the verdict, which functions above promise; theorems tie them to the definitions, and no contract
-- of a call rests on them.
pub mod WhileMining
pub mod Forms
pub mod Marked
pub mod Backward
pub mod Options
pub mod Telling
