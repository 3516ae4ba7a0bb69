-- What a step of the rules has to show, from plain facts.
pub mod Steps
