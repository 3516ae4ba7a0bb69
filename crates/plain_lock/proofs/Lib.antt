-- Laws of the plain lock first, then what the counts and the rows of events say of it; each file says what it shows.
pub mod PlainLaws
pub mod StandingLaws
pub mod RowLaws
pub mod VerdictLaws
