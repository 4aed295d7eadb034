mod Laws
mod OneStop
mod Refusing
mod Sections
mod Steps
mod Walks
mod Worked
